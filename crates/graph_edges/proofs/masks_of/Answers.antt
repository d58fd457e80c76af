use Rattle.graph_edges.proofs.Laws.{adding_start, adding_next}
use Rattle.graph_edges.proofs.masks_of.Goals as goal

pub loop-t-init : goal.loop-t-init
loop-t-init c = adding_start _ _

pub loop-t-preserved : goal.loop-t-preserved
loop-t-preserved c = adding_next _ _ _ _ c.loop-t.invariant _ _ c.loop-t-test.true c.add_test.ensures
