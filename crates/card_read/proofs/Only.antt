-- No second answer fits: the contract of the public function determines what it answers.
use Rattle.theory.specs.Determined.{Determines, only}
use Rattle.card_read.proofs.read_card.Reads as ReadCard

pub read_card_only : Determines ReadCard.Learnt
read_card_only κs a r q s t = only
