use borrow.Author.Rules.{rules}
use Rattle.why_case.proofs.Laws.{spanning}
use Rattle.why_case.proofs.row_spans.Goals as goal

pub loop-i-init : goal.loop-i-init
loop-i-init c = search (rules, spanning)

pub bounds-plan-i : goal.bounds-plan-i
bounds-plan-i c = search (rules, spanning)

pub bounds-from-k : goal.bounds-from-k
bounds-from-k c = search (rules, spanning)

pub bounds-plan-i-in-loop-i : goal.bounds-plan-i-in-loop-i
bounds-plan-i-in-loop-i c = search (rules, spanning)

pub bounds-to-k : goal.bounds-to-k
bounds-to-k c = search (rules, spanning)

pub loop-i-preserved : goal.loop-i-preserved
loop-i-preserved c = search (rules, spanning)

pub returns : goal.returns
returns c = search (rules, spanning)
