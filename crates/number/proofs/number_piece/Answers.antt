use mathlib.Core.Path.{refl}
use borrow.Author.Rules.{rules}
use Rattle.number.proofs.Numbers.{placing, minus_fits}
use Rattle.number.proofs.number_piece.Goals as goal

pub returns-then-s-eq0 : goal.returns-then-s-eq0
returns-then-s-eq0 c = search (rules, placing)

pub returns-in_err-run : goal.returns-in_err-run
returns-in_err-run c = search (rules, placing)

pub returns-then-run-eq0 : goal.returns-then-run-eq0
returns-then-run-eq0 c = search (rules, placing)

pub overflow_sub-result : goal.overflow_sub-result
overflow_sub-result c = search (rules, placing)

pub overflow_add-result : goal.overflow_add-result
overflow_add-result c =
    minus_fits _ c.if-s-eq0.false _ c.if-s-eq45.true c.digits_run.ensures c.in_ok-run.run' (search rules) (search rules) _ refl

pub returns-then-s-eq45 : goal.returns-then-s-eq45
returns-then-s-eq45 c = search (rules, placing)

pub returns-in_err-run-2 : goal.returns-in_err-run-2
returns-in_err-run-2 c = search (rules, placing)

pub overflow_add-result-2 : goal.overflow_add-result-2
overflow_add-result-2 c = search (rules, placing)

pub returns : goal.returns
returns c = search (rules, placing)
