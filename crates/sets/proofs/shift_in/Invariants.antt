-- `sets::shift_in` puts a number in. The loop: what is still to be moved gives the whole.
use Prim.Native.Nat.{◌-◌}
use Rattle.sets.proofs.Laws.{Shifting}
use Rattle.sets.proofs.shift_in.Given as goal

abbrev pub invariant-loop-k : goal.invariant-loop-k
invariant-loop-k l = Shifting l.pos l.n l.v l.initial.a l.a l.k l.carry

abbrev pub decreases-loop-k : goal.decreases-loop-k
decreases-loop-k l = l.n - l.k
