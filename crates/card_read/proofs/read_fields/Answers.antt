use borrow.Author.Rules.{rules}
use Rattle.text.proofs.Exits.{left_by}
use Rattle.card_read.proofs.Fields.{fielding}
use Rattle.card_read.proofs.read_fields.Goals as goal

pub returns-in_err-v : goal.returns-in_err-v
returns-in_err-v c = left_by c.from_residual.ensures (search (rules, fielding, c.in_err-v.was))

pub overflow_add-starts : goal.overflow_add-starts
overflow_add-starts c = search (rules, fielding, c.in_ok-v.was)

pub overflow_add-at : goal.overflow_add-at
overflow_add-at c = search (rules, fielding, c.in_ok-v.was)

pub overflow_add-at-in-loop-i : goal.overflow_add-at-in-loop-i
overflow_add-at-in-loop-i c = search (rules, fielding, c.in_ok-v.was)

pub overflow_add-at-in-loop-i-2 : goal.overflow_add-at-in-loop-i-2
overflow_add-at-in-loop-i-2 c = search (rules, fielding, c.in_ok-v.was)

pub loop-i-preserved : goal.loop-i-preserved
loop-i-preserved c = search (rules, fielding, c.in_ok-v.was)

pub loop-i-init : goal.loop-i-init
loop-i-init c = search (rules, fielding)

pub returns : goal.returns
returns c = search (rules, fielding)
