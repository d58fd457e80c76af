use borrow.Author.Rules.{rules}
use Rattle.step_moment.proofs.Laws.{marking}
use Rattle.step_moment.proofs.mark_parents.Goals as goal

pub loop-x-preserved : goal.loop-x-preserved
loop-x-preserved c = search (rules, marking)

pub returns : goal.returns
returns c = search (rules, marking)
