-- No second answer fits: each public function's contract determines what it answers.
use Rattle.theory.specs.Determined.{Determines, only}
use Rattle.step_moment.proofs.moment_of.Reads as MomentOf
use Rattle.step_moment.proofs.pattern_of.Reads as PatternOf
use Rattle.step_moment.proofs.tasks_started.Reads as TasksStarted

pub moment_of_only : Determines MomentOf.Learnt
moment_of_only κs a r q s t = only

pub pattern_of_only : Determines PatternOf.Learnt
pattern_of_only κs a r q s t = only

pub tasks_started_only : Determines TasksStarted.Learnt
tasks_started_only κs a r q s t = only
