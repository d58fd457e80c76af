use borrow.Author.Rules.{rules}
use Rattle.number.proofs.Laws.{judging}
use Rattle.number.proofs.digits_run.Goals as goal

pub returns-then-needless : goal.returns-then-needless
returns-then-needless c = search (rules, judging)

pub returns-in_err-run : goal.returns-in_err-run
returns-in_err-run c = search (rules, judging)

pub returns-then-run-eq0 : goal.returns-then-run-eq0
returns-then-run-eq0 c = search (rules, judging)

pub returns : goal.returns
returns c = search (rules, judging)
