-- The line of the model: three pieces, one behind the other.
use borrow.Author.Rules.{rules}
use Rattle.clerk_rounds.proofs.Laws.{modelling}
use Rattle.clerk_rounds.proofs.put_model.Goals as goal

pub put_text-a-requires : goal.put_text-a-requires
put_text-a-requires c = search (rules, modelling)

pub spell-b-requires : goal.spell-b-requires
spell-b-requires c = search (rules, modelling)

pub put_byte-requires : goal.put_byte-requires
put_byte-requires c = search (rules, modelling)

pub returns : goal.returns
returns c = search (rules, modelling)
