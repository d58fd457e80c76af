-- `with_closings` puts the closings behind the tests. The invariant: those that are left, put behind what stands, give what all of them give from the start.
use Rattle.graph_tests.proofs.Laws.{Closing}
use Rattle.graph_tests.proofs.with_closings.Given as goal

abbrev pub invariant-loop-x : goal.invariant-loop-x
invariant-loop-x l = Closing l.under l.x-end l.initial.tests l.tests l.x
