-- The line of an edge: four pieces, one behind the other.
use borrow.Author.Rules.{rules}
use Rattle.clerk_rounds.proofs.Laws.{edging}
use Rattle.clerk_rounds.proofs.put_edge.Goals as goal

pub put_text-a-requires : goal.put_text-a-requires
put_text-a-requires c = search (rules, edging)

pub put_node-b-requires : goal.put_node-b-requires
put_node-b-requires c = search (rules, edging)

pub put_node-c-requires : goal.put_node-c-requires
put_node-c-requires c = search (rules, edging)

pub put_number-requires : goal.put_number-requires
put_number-requires c = search (rules, edging)

pub returns : goal.returns
returns c = search (rules, edging)
