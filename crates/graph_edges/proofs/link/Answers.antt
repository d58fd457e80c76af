-- `graph_edges::link` adds one edge: `with_bit` sets bit p of mask k, and behind the last mask there is none to set it in.
use borrow.Author.Rules.{rules}
use Rattle.graph_edges.proofs.Laws.{linking}
use Rattle.graph_edges.proofs.link.Goals as goal

pub returns-then-k-ge-NODES : goal.returns-then-k-ge-NODES
returns-then-k-ge-NODES c = search (rules, linking)

pub offset_bounds-masks-k : goal.offset_bounds-masks-k
offset_bounds-masks-k c = search (rules, linking)

pub bounds-masks-k : goal.bounds-masks-k
bounds-masks-k c = search (rules, linking)

pub with_bit-requires : goal.with_bit-requires
with_bit-requires c = search (rules, linking)

pub offset_bounds-masks-k-2 : goal.offset_bounds-masks-k-2
offset_bounds-masks-k-2 c = search (rules, linking)

pub bounds-masks-k-2 : goal.bounds-masks-k-2
bounds-masks-k-2 c = search (rules, linking)

pub returns : goal.returns
returns c = search (rules, linking)
