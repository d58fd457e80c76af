-- `closed_with` tells nothing of a status without a parent, otherwise the parent’s line.
use borrow.Author.Rules.{rules}
use Rattle.why_case.proofs.Laws.{looking}
use Rattle.why_case.proofs.closed_with.Goals as goal

pub returns-then-under-eq0 : goal.returns-then-under-eq0
returns-then-under-eq0 c = search (rules, looking)

pub of_byte-requires : goal.of_byte-requires
of_byte-requires c = search (rules, looking)

pub overflow_add-result : goal.overflow_add-result
overflow_add-result c = search (rules, looking)

pub overflow_sub-result : goal.overflow_sub-result
overflow_sub-result c = search (rules, looking)

pub overflow_mul-result : goal.overflow_mul-result
overflow_mul-result c = search (rules, looking)

pub overflow_add-result-2 : goal.overflow_add-result-2
overflow_add-result-2 c = search (rules, looking)

pub overflow_cast-result : goal.overflow_cast-result
overflow_cast-result c = search (rules, looking)

pub returns : goal.returns
returns c = search (rules, looking)
