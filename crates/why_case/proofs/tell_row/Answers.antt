-- `tell_row` tells nothing of an implied row, otherwise its line and kind.
use borrow.Author.Rules.{rules}
use Rattle.why_case.proofs.Laws.{rowing}
use Rattle.why_case.proofs.tell_row.Goals as goal

pub returns-then-t-eq0 : goal.returns-then-t-eq0
returns-then-t-eq0 c = search (rules, rowing)

pub stopped-stop-requires : goal.stopped-stop-requires
stopped-stop-requires c = search (rules, rowing)

pub line_number-requires : goal.line_number-requires
line_number-requires c = search (rules, rowing)

pub overflow_mul-result : goal.overflow_mul-result
overflow_mul-result c = search (rules, rowing)

pub kind_of-requires : goal.kind_of-requires
kind_of-requires c = search (rules, rowing)

pub overflow_add-result : goal.overflow_add-result
overflow_add-result c = search (rules, rowing)

pub returns : goal.returns
returns c = search (rules, rowing)
