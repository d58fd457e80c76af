-- No second answer fits: the contract of the public function determines what it answers.
use Rattle.theory.specs.Determined.{Determines, only}
use Rattle.cond_value.proofs.verdict.Reads as Verdict

pub verdict_only : Determines Verdict.Learnt
verdict_only κs a r q s t = only
