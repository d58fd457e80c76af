-- `graph_edges::add_trigger` adds the edge of a trigger: each arm is one case of `trigger_nodes`.
use borrow.Author.Rules.{rules}
use Rattle.graph_edges.proofs.Laws.{triggering}
use Rattle.graph_edges.proofs.add_trigger.Goals as goal

pub enum_told-1 : goal.enum_told-1
enum_told-1 c = search (rules, triggering)

pub enum_told-in-Event : goal.enum_told-in-Event
enum_told-in-Event c = search (rules, triggering)

pub enum_known-t : goal.enum_known-t
enum_known-t c = search (rules, triggering)

pub of_byte-requires : goal.of_byte-requires
of_byte-requires c = search (rules, triggering)

pub node_of-requires : goal.node_of-requires
node_of-requires c = search (rules, triggering)

pub link-requires : goal.link-requires
link-requires c = search (rules, triggering)

pub enum_known-t-in-Fall-1 : goal.enum_known-t-in-Fall-1
enum_known-t-in-Fall-1 c = search (rules, triggering)

pub of_byte-requires-in-Fall : goal.of_byte-requires-in-Fall
of_byte-requires-in-Fall c = search (rules, triggering)

pub node_of-requires-in-Fall : goal.node_of-requires-in-Fall
node_of-requires-in-Fall c = search (rules, triggering)

pub link-requires-in-Fall : goal.link-requires-in-Fall
link-requires-in-Fall c = search (rules, triggering)

pub returns-in-Always : goal.returns-in-Always
returns-in-Always c = search (rules, triggering)

pub returns-in-Event : goal.returns-in-Event
returns-in-Event c = search (rules, triggering)

pub returns-in-Rise : goal.returns-in-Rise
returns-in-Rise c = search (rules, triggering)

pub returns-in-Fall : goal.returns-in-Fall
returns-in-Fall c = search (rules, triggering)
