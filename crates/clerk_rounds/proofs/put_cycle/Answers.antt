-- The refusal, and the circle behind it.
use borrow.Author.Rules.{rules}
use Rattle.clerk_rounds.proofs.Laws.{cycling}
use Rattle.clerk_rounds.proofs.put_cycle.Goals as goal

pub put_refusal-a-requires : goal.put_refusal-a-requires
put_refusal-a-requires c = search (rules, cycling)

pub put_round-requires : goal.put_round-requires
put_round-requires c = search (rules, cycling)

pub returns : goal.returns
returns c = search (rules, cycling)
