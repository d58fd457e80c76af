-- `graph_edges::add_words` adds the edges of a condition. The loop: those of the words before the cursor stand in the masks.
use Rattle.graph_edges.proofs.Laws.{Reading}
use Rattle.graph_edges.proofs.add_words.Given as goal

abbrev pub invariant-loop-w : goal.invariant-loop-w
invariant-loop-w l = Reading l.words l.k l.initial.masks l.masks l.w-index
