-- `put_stops` puts the reasons of the rows that were stopped. The invariant: with those that are left, the list becomes what it becomes with all.
use Prim.Native.Nat.{◌-◌}
use Rattle.why_case.proofs.Laws.{Stopping}
use Rattle.why_case.proofs.put_stops.Given as goal

abbrev pub invariant-loop-j : goal.invariant-loop-j
invariant-loop-j l = Stopping l.rows l.from l.to l.x l.initial.reasons l.n-2 l.base l.end l.reasons l.n l.j

abbrev pub decreases-loop-j : goal.decreases-loop-j
decreases-loop-j l = l.end - l.j
