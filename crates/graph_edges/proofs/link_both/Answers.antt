-- `graph_edges::link_both` adds the edges from both nodes of a status: those of the first call and then those of the second.
use borrow.Author.Rules.{rules}
use Rattle.graph_edges.proofs.Laws.{coupling}
use Rattle.graph_edges.proofs.link_both.Goals as goal

pub node_of-requires : goal.node_of-requires
node_of-requires c = search (rules, coupling)

pub link-requires : goal.link-requires
link-requires c = search (rules, coupling)

pub node_of-requires-2 : goal.node_of-requires-2
node_of-requires-2 c = search (rules, coupling)

pub link-requires-2 : goal.link-requires-2
link-requires-2 c = search (rules, coupling)

pub returns : goal.returns
returns c = search (rules, coupling)
