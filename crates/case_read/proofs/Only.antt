-- No second answer fits the contract that the function declares.
use Rattle.theory.specs.Determined.{Determines, only}
use Rattle.case_read.proofs.read_case.Reads as ReadCase

pub read_case_only : Determines ReadCase.Learnt
read_case_only κs a r q s t = only
