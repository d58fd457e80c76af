-- `plan_tests` answers the plan. The invariants: the nodes that are left, listed from here on, give what all of them give from the start, and so do they
-- behind the tests of a node that are left.
use Rattle.step_plan.proofs.Laws.{AtNode, AtRow}
use Rattle.step_plan.proofs.plan_tests.Given as goal

abbrev pub invariant-loop-t : goal.invariant-loop-t
invariant-loop-t l = AtRow l.listed l.order l.nodes l.i-end l.rows l.ends l.end l.i l.t-index

abbrev pub invariant-loop-i : goal.invariant-loop-i
invariant-loop-i l = AtNode l.listed l.order l.nodes l.i-end l.rows l.ends l.end l.i
