-- No second answer fits: each public function's contract determines what it answers.
use Rattle.theory.specs.Determined.{Determines, only}
use Rattle.case_sheet.proofs.accept.Reads as Accept

pub accept_only : Determines Accept.Learnt
accept_only κs a r q s t = only
