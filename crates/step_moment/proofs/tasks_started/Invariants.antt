-- Stage after stage. The invariant: the marks of the tasks up to here.
use Rattle.step_moment.proofs.Laws.{Tasking}
use Rattle.step_moment.proofs.tasks_started.Given as goal

abbrev pub invariant-loop-x : goal.invariant-loop-x
invariant-loop-x l = Tasking l.parents l.before l.after l.stages l.tasks l.x
