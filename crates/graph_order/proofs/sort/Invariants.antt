-- `graph_order::sort` answers the order that the meaning takes. The loop: the order of the nodes left, written behind what stands in the array, is the whole.
use Rattle.graph_order.proofs.Laws.{Going}
use Rattle.graph_order.proofs.sort.Given as goal

abbrev pub invariant-loop-len : goal.invariant-loop-len
invariant-loop-len l = Going l.masks l.n l.left l.order l.len
