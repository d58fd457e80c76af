-- The sign of a node.
use borrow.Author.Rules.{rules}
use Rattle.clerk_rounds.proofs.Laws.{signing}
use Rattle.clerk_rounds.proofs.put_sign.Goals as goal

pub put_text-requires : goal.put_text-requires
put_text-requires c = search (rules, signing)

pub returns-then-k-eq0 : goal.returns-then-k-eq0
returns-then-k-eq0 c = search (rules, signing)

pub put_text-requires-2 : goal.put_text-requires-2
put_text-requires-2 c = search (rules, signing)

pub returns : goal.returns
returns c = search (rules, signing)
