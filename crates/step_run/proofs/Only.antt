-- No second answer fits: the contract of the public function determines what it answers.
use Rattle.theory.specs.Determined.{Determines, only}
use Rattle.step_run.proofs.run_step.Reads as RunStep

pub run_step_only : Determines RunStep.Learnt
run_step_only κs a r q s t = only
