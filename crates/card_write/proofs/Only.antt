-- No second answer fits: the contract of the public function determines what it answers, and the lent space.
use Rattle.theory.specs.Determined.{Determines, Settles, only}
use Rattle.card_write.proofs.write_card.Reads as WriteCard

pub write_card_only : Determines WriteCard.Learnt
write_card_only κs a r q s t h g = only h.0 g.0

-- the lent space is the first parameter
pub card_space_only : Settles WriteCard.Learnt (λ κs r s. s.0.now)
card_space_only κs a r q s t h g = only h.1 g.1
