use Rattle.std.proofs.Common.{refl}
use Rattle.graph_tests.proofs.Laws.{closing_none, closing_put}
use Rattle.graph_tests.proofs.with_closings.Goals as goal
use Rattle.graph_tests.proofs.with_closings.Goals.{in-Some, in_default}

pub loop-x-preserved : goal.loop-x-preserved
loop-x-preserved c =
    elim c.match-checked_sub.branch [
      | in-Some w ↦ closing_put _ _ _ _ _ c.loop-x.invariant c.loop-x-test.true _ refl _ _ w.in-Some.ensures _ w.closing.ensures w.tests-is
      | in_default w ↦ closing_none _ _ _ _ _ c.loop-x.invariant c.loop-x-test.true _ refl _ w.in_default.ensures w.tests-is
    ]
