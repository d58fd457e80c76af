-- The stage, and the end of the line.
use borrow.Author.Rules.{rules}
use Rattle.text.proofs.Exits.{left_by}
use Rattle.sheet_statuses.proofs.Ends.{undering}
use Rattle.sheet_statuses.proofs.under_end.Goals as goal

pub returns-in_err-stage : goal.returns-in_err-stage
returns-in_err-stage c = left_by c.from_residual.ensures (search (rules, undering, c.in_err-stage.was))

pub returns-in_err-end : goal.returns-in_err-end
returns-in_err-end c = left_by c.from_residual-in_err-end.ensures (search (rules, undering, c.in_ok-stage.was, c.in_err-end.was))

pub returns : goal.returns
returns c = search (rules, undering, c.in_ok-stage.was, c.in_ok-end.was)
