use Rattle.std.proofs.Common.{refl}
use Rattle.graph_order.proofs.Laws.{going_start, going_next}
use Rattle.graph_order.proofs.sort.Goals as goal

pub loop-len-init : goal.loop-len-init
loop-len-init c = going_start _ _ _ c.requires c.full-left.ensures

pub loop-len-preserved : goal.loop-len-preserved
loop-len-preserved c =
    going_next _ _ _ _ _ c.loop-len.invariant c.in_ok-k.k c.in_ok-k.ensures c.requires c.loop-len-test.true _ _ _ refl refl refl
