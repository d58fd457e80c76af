-- `status_at` looks up what is known of a status.
use borrow.Author.Rules.{rules}
use Rattle.why_case.proofs.Laws.{looking}
use Rattle.why_case.proofs.status_at.Goals as goal

pub node_of-k-requires : goal.node_of-k-requires
node_of-k-requires c = search (rules, looking)

pub bounds-before-x : goal.bounds-before-x
bounds-before-x c = search (rules, looking)

pub bounds-facts-x : goal.bounds-facts-x
bounds-facts-x c = search (rules, looking)

pub bounds-facts-k : goal.bounds-facts-k
bounds-facts-k c = search (rules, looking)

pub of_byte-requires : goal.of_byte-requires
of_byte-requires c = search (rules, looking)

pub bounds-facts-k-2 : goal.bounds-facts-k-2
bounds-facts-k-2 c = search (rules, looking)

pub of_byte-requires-2 : goal.of_byte-requires-2
of_byte-requires-2 c = search (rules, looking)

pub bounds-facts-x-2 : goal.bounds-facts-x-2
bounds-facts-x-2 c = search (rules, looking)

pub closed_with-requires : goal.closed_with-requires
closed_with-requires c = search (rules, looking)

pub returns : goal.returns
returns c = search (rules, looking)
