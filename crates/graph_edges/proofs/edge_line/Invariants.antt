-- `graph_edges::edge_line` answers the line of the first test that gives an edge. The loop: the rows from the cursor on give it.
use Rattle.graph_edges.proofs.Laws.{Lining}
use Rattle.graph_edges.proofs.edge_line.Given as goal

abbrev pub invariant-loop-t : goal.invariant-loop-t
invariant-loop-t l = Lining l.words l.rows l.p l.k l.t-index
