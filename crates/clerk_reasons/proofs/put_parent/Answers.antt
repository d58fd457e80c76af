-- What is told of a closing: three pieces, one behind the other.
use borrow.Author.Rules.{rules}
use Rattle.clerk_reasons.proofs.Laws.{closing}
use Rattle.clerk_reasons.proofs.put_parent.Goals as goal

pub put_text-a-requires : goal.put_text-a-requires
put_text-a-requires c = search (rules, closing)

pub spell-b-requires : goal.spell-b-requires
spell-b-requires c = search (rules, closing)

pub put_text-requires : goal.put_text-requires
put_text-requires c = search (rules, closing)

pub returns : goal.returns
returns c = search (rules, closing)
