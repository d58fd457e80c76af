-- `sets::lower_bound` halves what is left: all before `lo` are below the number, and none from `hi` on is.
use Prim.Native.Nat.{◌-◌}
use Rattle.sets.proofs.Laws.{Bracket}
use Rattle.sets.proofs.lower_bound.Given as goal

abbrev pub invariant-loop-lo : goal.invariant-loop-lo
invariant-loop-lo l = Bracket l.a l.n l.v l.lo l.hi

abbrev pub decreases-loop-lo : goal.decreases-loop-lo
decreases-loop-lo l = l.hi - l.lo
