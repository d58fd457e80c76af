-- `graph_edges::node_of` answers the node of a sign and a status: each return is one case of the definition.
use borrow.Author.Rules.{rules}
use Rattle.graph_edges.proofs.Laws.{naming}
use Rattle.graph_edges.proofs.node_of.Goals as goal

pub overflow_mul-result : goal.overflow_mul-result
overflow_mul-result c = search (rules, naming)

pub returns-then-plus : goal.returns-then-plus
returns-then-plus c = search (rules, naming)

pub overflow_mul-result-2 : goal.overflow_mul-result-2
overflow_mul-result-2 c = search (rules, naming)

pub overflow_add-result : goal.overflow_add-result
overflow_add-result c = search (rules, naming)

pub returns : goal.returns
returns c = search (rules, naming)
