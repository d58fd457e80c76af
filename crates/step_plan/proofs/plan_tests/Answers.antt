use Rattle.std.proofs.Common.{rules}
use Rattle.step_plan.proofs.Laws.{nodes_start, rows_start, row_passed, row_put, rows_next}
use Rattle.step_plan.proofs.plan_tests.Goals as goal
use Rattle.step_plan.proofs.plan_tests.Goals.{then-goes, else-goes}

pub loop-i-init : goal.loop-i-init
loop-i-init c = nodes_start _ _ _ _ (search rules) c.min-i-end.ensures _ c.no_test-rows.ensures

pub loop-t-init : goal.loop-t-init
loop-t-init c = rows_start _ _ _ _ _ _ _ _ c.loop-i.invariant c.loop-i-test.true

pub loop-t-preserved : goal.loop-t-preserved
loop-t-preserved c =
    elim c.if-goes.branch [
      | then-goes w ↦ row_put _ _ _ _ _ _ _ _ _ c.loop-t.invariant _ c.loop-t-test.true _ c.goes.ensures w.if-goes.true _ _ w.rows-is w.end-is
      | else-goes w ↦ row_passed _ _ _ _ _ _ _ _ _ c.loop-t.invariant _ c.loop-t-test.true _ c.goes.ensures w.if-goes.false _ _ w.rows-is w.end-is
    ]

pub loop-i-preserved : goal.loop-i-preserved
loop-i-preserved c = rows_next _ _ _ _ _ _ _ _ _ c.loop-t.invariant c.loop-t-test.false
