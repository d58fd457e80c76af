use Rattle.std.proofs.Common.{arith}
use Rattle.graph_circle.proofs.Back.{back_found, back_next}
use Rattle.graph_circle.proofs.go_back.Goals as goal

pub returns-in-Some-came_to : goal.returns-in-Some-came_to
returns-in-Some-came_to c =
    back_found _ _ _ _ c.requires.0 (c.requires.1) _ _ _ c.loop-at.invariant (omega arith) c.in-Some.p c.in-Some.ensures _ c.in-Some-came_to.ensures

pub loop-at-preserved : goal.loop-at-preserved
loop-at-preserved c =
    back_next _ _ _ _ c.requires.0 (c.requires.1) _ _ _ c.loop-at.invariant (omega arith) c.in-Some.p c.in-Some.ensures c.in_default-came_to.ensures
