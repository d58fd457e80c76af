-- A node and the space behind it: three pieces, one behind the other.
use borrow.Author.Rules.{rules}
use Rattle.clerk_rounds.proofs.Laws.{noding}
use Rattle.clerk_rounds.proofs.put_node.Goals as goal

pub put_sign-a-requires : goal.put_sign-a-requires
put_sign-a-requires c = search (rules, noding)

pub name_of-requires : goal.name_of-requires
name_of-requires c = search (rules, noding)

pub spell-b-requires : goal.spell-b-requires
spell-b-requires c = search (rules, noding)

pub put_byte-requires : goal.put_byte-requires
put_byte-requires c = search (rules, noding)

pub returns : goal.returns
returns c = search (rules, noding)
