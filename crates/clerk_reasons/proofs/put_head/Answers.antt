-- The line up to the name: two pieces, one behind the other.
use borrow.Author.Rules.{rules}
use Rattle.clerk_reasons.proofs.Laws.{heading}
use Rattle.clerk_reasons.proofs.put_head.Goals as goal

pub put_key-a-requires : goal.put_key-a-requires
put_key-a-requires c = search (rules, heading)

pub spell-requires : goal.spell-requires
spell-requires c = search (rules, heading)

pub returns : goal.returns
returns c = search (rules, heading)
