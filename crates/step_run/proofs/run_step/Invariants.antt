-- `run_step` answers the run. The invariant: the nodes that are left from here on lead to what all of them lead to from the start.
use Rattle.step_run.proofs.Laws.{Running}
use Rattle.step_run.proofs.run_step.Given as goal

abbrev pub invariant-loop-i : goal.invariant-loop-i
invariant-loop-i l = Running l.words l.moment l.plan l.after l.start l.i
