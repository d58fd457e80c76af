use Rattle.std.proofs.Common.{refl}
use Rattle.graph_circle.proofs.Laws.{taking_start, taking_next}
use Rattle.graph_circle.proofs.left_when_stuck.Goals as goal

pub loop-i-init : goal.loop-i-init
loop-i-init c = taking_start _ _ _ c.requires c.full-left.ensures

pub loop-i-preserved : goal.loop-i-preserved
loop-i-preserved c = taking_next _ _ _ _ c.loop-i.invariant c.in-Some.k c.in-Some.ensures c.requires c.loop-i-test.true _ _ refl refl
