-- `graph_edges::masks_of` answers the graph of the tests. The loop: the edges of the tests before the cursor stand in the masks.
use Rattle.graph_edges.proofs.Laws.{Adding}
use Rattle.graph_edges.proofs.masks_of.Given as goal

abbrev pub invariant-loop-t : goal.invariant-loop-t
invariant-loop-t l = Adding l.words l.rows l.masks l.t-index
