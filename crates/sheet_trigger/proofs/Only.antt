-- No second answer fits: the contract of the public function determines what it answers.
use Rattle.theory.specs.Determined.{Determines, only}
use Rattle.sheet_trigger.proofs.read_start.Reads as ReadStart

pub read_start_only : Determines ReadStart.Learnt
read_start_only κs a r q s t = only
