use borrow.Author.Rules.{rules}
use Rattle.step_moment.proofs.Laws.{putting}
use Rattle.step_moment.proofs.put_in.Goals as goal

pub loop-i-preserved : goal.loop-i-preserved
loop-i-preserved c = search (rules, putting)

pub returns : goal.returns
returns c = search (rules, putting)
