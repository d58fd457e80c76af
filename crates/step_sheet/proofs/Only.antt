-- No second answer fits: the contract of the public function determines what it answers.
use Rattle.theory.specs.Determined.{Determines, only}
use Rattle.step_sheet.proofs.refused.Reads as Refused

pub refused_only : Determines Refused.Learnt
refused_only κs a r q s t = only
