-- A name, with a space before it where another stands there; or nothing.
use borrow.Author.Rules.{rules}
use Rattle.clerk_prospects.proofs.Laws.{yes}
use Rattle.clerk_prospects.proofs.put_yes.Goals as goal

pub returns-then-p-ne1 : goal.returns-then-p-ne1
returns-then-p-ne1 c = search (rules, yes)

pub spell-requires : goal.spell-requires
spell-requires c = search (rules, yes)

pub shape_of-out-then-not-behind : goal.shape_of-out-then-not-behind
shape_of-out-then-not-behind c = search (rules, yes)

pub returns-then-not-behind : goal.returns-then-not-behind
returns-then-not-behind c = search (rules, yes)

pub put_byte-a-requires : goal.put_byte-a-requires
put_byte-a-requires c = search (rules, yes)

pub spell-requires-2 : goal.spell-requires-2
spell-requires-2 c = search (rules, yes)

pub shape_of-out : goal.shape_of-out
shape_of-out c = search (rules, yes)

pub returns : goal.returns
returns c = search (rules, yes)
