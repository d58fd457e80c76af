-- `graph_circle::go_back` answers the circle that the way back meets. The loop: the way from the last node of the trail is the whole way.
use Rattle.graph_circle.proofs.Back.{Backing}
use Rattle.graph_circle.proofs.go_back.Given as goal

abbrev pub invariant-loop-at : goal.invariant-loop-at
invariant-loop-at l = Backing l.masks l.left l.n l.first l.trail l.at l.k
