use borrow.Author.Rules.{rules}
use Rattle.number.proofs.Laws.{passing}
use Rattle.number.proofs.amount_run.Goals as goal

pub loop-i-init : goal.loop-i-init
loop-i-init c = search (rules, passing)

pub returns-then-not-is_digit : goal.returns-then-not-is_digit
returns-then-not-is_digit c = search (rules, passing)

pub overflow_mul-value : goal.overflow_mul-value
overflow_mul-value c = search (rules, passing)

pub overflow_add-value : goal.overflow_add-value
overflow_add-value c = search (rules, passing)

pub returns-then-value-gt-MIDDLE : goal.returns-then-value-gt-MIDDLE
returns-then-value-gt-MIDDLE c = search (rules, passing)

pub loop-i-preserved : goal.loop-i-preserved
loop-i-preserved c = search (rules, passing)

pub returns : goal.returns
returns c = search (rules, passing)
