-- No second answer fits: the contract of the public function determines what it answers.
use Rattle.theory.specs.Determined.{Determines, only}
use Rattle.marks.proofs.yes.Reads as Yes

pub yes_only : Determines Yes.Learnt
yes_only κs a r q s t = only
