use borrow.Author.Rules.{rules}
use Rattle.text.proofs.Exits.{left_by}
use Rattle.card_read.proofs.Marks.{marking}
use Rattle.card_read.proofs.read_marks.Goals as goal

pub returns-in_err-m : goal.returns-in_err-m
returns-in_err-m c = left_by c.from_residual.ensures (search (rules, marking, c.in_err-m.was))

pub overflow_add-at : goal.overflow_add-at
overflow_add-at c = search (rules, marking, c.in_ok-m.was)

pub loop-i-preserved : goal.loop-i-preserved
loop-i-preserved c = search (rules, marking, c.in_ok-m.was)

pub loop-i-init : goal.loop-i-init
loop-i-init c = search (rules, marking)

pub overflow_add-first : goal.overflow_add-first
overflow_add-first c = search (rules, marking)

pub returns : goal.returns
returns c = search (rules, marking)
