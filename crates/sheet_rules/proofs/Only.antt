-- No second answer fits: each public function's contract determines what it answers, and the lent words.
use Rattle.theory.specs.Determined.{Determines, Settles, only}
use Rattle.sheet_rules.proofs.read_rules.Reads as ReadRules

pub read_rules_only : Determines ReadRules.Learnt
read_rules_only κs a r q s t h g = only h.0 g.0

-- the lent words are the sixth parameter
pub rules_words_only : Settles ReadRules.Learnt (λ κs r s. s.1.1.1.1.1.0.now)
rules_words_only κs a r q s t h g = only h.1 g.1
