-- `graph_edges::add_home` adds the edges of a stage that must be yes after: each return is one case of `home_nodes`.
use borrow.Author.Rules.{rules}
use Rattle.graph_edges.proofs.Laws.{covering}
use Rattle.graph_edges.proofs.add_home.Goals as goal

pub returns-then-home-eq0 : goal.returns-then-home-eq0
returns-then-home-eq0 c = search (rules, covering)

pub of_byte-requires : goal.of_byte-requires
of_byte-requires c = search (rules, covering)

pub overflow_sub-of_byte : goal.overflow_sub-of_byte
overflow_sub-of_byte c = search (rules, covering)

pub link_both-requires : goal.link_both-requires
link_both-requires c = search (rules, covering)

pub returns : goal.returns
returns c = search (rules, covering)
