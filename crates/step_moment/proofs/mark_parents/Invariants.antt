-- Code after code is marked. The invariant: marking what is left from here on is marking all from the start.
use Rattle.step_moment.proofs.Laws.{Marking}
use Rattle.step_moment.proofs.mark_parents.Given as goal

abbrev pub invariant-loop-x : goal.invariant-loop-x
invariant-loop-x l = Marking l.under l.stages l.parents l.x
