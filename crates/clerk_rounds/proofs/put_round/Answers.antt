use borrow.Author.Rules.{rules}
use Rattle.clerk_rounds.proofs.Laws.{rounding}
use Rattle.clerk_rounds.proofs.put_round.Goals as goal

pub loop-i-init : goal.loop-i-init
loop-i-init c = search (rules, rounding)

pub put_place-to-requires : goal.put_place-to-requires
put_place-to-requires c = search (rules, rounding)

pub loop-i-preserved : goal.loop-i-preserved
loop-i-preserved c = search (rules, rounding)

pub returns : goal.returns
returns c = search (rules, rounding)
