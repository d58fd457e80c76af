-- `node_of` answers the node of the change that a status could have made: a return each.
use borrow.Author.Rules.{rules}
use Rattle.why_case.proofs.Laws.{looking}
use Rattle.why_case.proofs.node_of.Goals as goal

pub bounds-before-x : goal.bounds-before-x
bounds-before-x c = search (rules, looking)

pub overflow_mul-result : goal.overflow_mul-result
overflow_mul-result c = search (rules, looking)

pub overflow_add-result : goal.overflow_add-result
overflow_add-result c = search (rules, looking)

pub returns-then-before-x-eq-YES : goal.returns-then-before-x-eq-YES
returns-then-before-x-eq-YES c = search (rules, looking)

pub overflow_mul-result-2 : goal.overflow_mul-result-2
overflow_mul-result-2 c = search (rules, looking)

pub returns : goal.returns
returns c = search (rules, looking)
