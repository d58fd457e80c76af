-- By whether a space stands.
use borrow.Author.Rules.{rules}
use Rattle.text.proofs.Exits.{left_by}
use Rattle.sheet_statuses.proofs.Ends.{overing}
use Rattle.sheet_statuses.proofs.stage_over.Goals as goal

pub returns-then-not-starts : goal.returns-then-not-starts
returns-then-not-starts c = search (rules, overing)

pub returns-in_err-stage : goal.returns-in_err-stage
returns-in_err-stage c = left_by c.from_residual.ensures (search (rules, overing, c.in_err-stage.was))

pub overflow_add-result : goal.overflow_add-result
overflow_add-result c = search (rules, overing, c.in_ok-stage.was)

pub returns : goal.returns
returns c = search (rules, overing, c.in_ok-stage.was)
