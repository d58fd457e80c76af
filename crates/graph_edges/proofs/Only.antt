-- No second answer fits: the contract that each public function declares determines what it answers.
use Rattle.theory.specs.Determined.{Determines, only}
use Rattle.graph_edges.proofs.testing_order.Reads as TestingOrder
use Rattle.graph_edges.proofs.circle_of.Reads as CircleOf
use Rattle.graph_edges.proofs.edge_line.Reads as EdgeLine

pub testing_order_only : Determines TestingOrder.Learnt
testing_order_only κs a r q s t = only

pub circle_of_only : Determines CircleOf.Learnt
circle_of_only κs a r q s t = only

pub edge_line_only : Determines EdgeLine.Learnt
edge_line_only κs a r q s t = only
