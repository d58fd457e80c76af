-- The last status first. The invariant: the pattern of the statuses from here on.
use Rattle.step_moment.proofs.Laws.{Counting}
use Rattle.step_moment.proofs.pattern_of.Given as goal

abbrev pub invariant-loop-i : goal.invariant-loop-i
invariant-loop-i l = Counting l.marks l.n l.p l.i
