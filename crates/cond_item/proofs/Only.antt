-- No second answer fits: each public function's contract determines what it answers, and the lent words.
use Rattle.theory.specs.Determined.{Determines, Settles, only}
use Rattle.cond_item.proofs.leaf_item.Reads as LeafItem
use Rattle.cond_item.proofs.join_word.Reads as JoinWord
use Rattle.cond_item.proofs.behind.Reads as Behind
use Rattle.cond_item.proofs.closed.Reads as Closed
use Rattle.cond_item.proofs.clear.Reads as Clear

pub leaf_item_only : Determines LeafItem.Learnt
leaf_item_only κs a r q s t h g = only h.0 g.0

-- the lent words are the fourth parameter
pub leaf_item_words_only : Settles LeafItem.Learnt (λ κs r s. s.1.1.1.0.now)
leaf_item_words_only κs a r q s t h g = only h.1 g.1

pub join_word_only : Determines JoinWord.Learnt
join_word_only κs a r q s t h g = only h.1 g.1

-- the lent words are the first parameter
pub join_word_words_only : Settles JoinWord.Learnt (λ κs r s. s.0.now)
join_word_words_only κs a r q s t h g = only h.0 g.0

-- whatever a refusal is told by
pub behind_only : (E : _) (L : _) → Determines (Behind.Learnt E L)
behind_only E L κs a r q s t = only

pub closed_only : (R : _) (L : _) (C : _) (F : _) (E : _) (G : _) (D : _) → Determines (Closed.Learnt R L C F E G D)
closed_only R L C F E G D κs a r q s t = only

pub clear_words_only : Settles Clear.Learnt (λ κs r s. s.0.now)
clear_words_only κs a r q s t = only
