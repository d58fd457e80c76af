-- `accept` reads the sheet, takes its tests in their testing order and lists them so; CYCLE where there is no order.
use borrow.Author.Rules.{rules}
use Rattle.case_sheet.proofs.Laws.{accept_double, accepting}
use Rattle.case_sheet.proofs.accept.Goals as goal

pub returns-in-Err : goal.returns-in-Err
returns-in-Err c = search (rules, accepting)

pub tests_of-tests-requires : goal.tests_of-tests-requires
tests_of-tests-requires c = search (rules, accepting)

pub overflow_add-statuses : goal.overflow_add-statuses
overflow_add-statuses c = search (rules, accepting)

pub testing_order-requires : goal.testing_order-requires
testing_order-requires c = search (rules, accepting)

pub returns-in_default : goal.returns-in_default
returns-in_default c = search (rules, accepting)

pub overflow_mul-statuses : goal.overflow_mul-statuses
overflow_mul-statuses c = search accept_double

pub returns : goal.returns
returns c = search (rules, accepting)
