-- The line of the first rule that gives the edge, or that of the child.
use borrow.Author.Rules.{rules}
use Rattle.clerk_rounds.proofs.Laws.{telling}
use Rattle.clerk_rounds.proofs.told_on.Goals as goal

pub overflow_add-result : goal.overflow_add-result
overflow_add-result c = search (rules, telling)

pub overflow_add-result-then-line-eq0 : goal.overflow_add-result-then-line-eq0
overflow_add-result-then-line-eq0 c = search (rules, telling)

pub overflow_add-result-then-line-eq0-2 : goal.overflow_add-result-then-line-eq0-2
overflow_add-result-then-line-eq0-2 c = search (rules, telling)

pub returns-then-line-eq0 : goal.returns-then-line-eq0
returns-then-line-eq0 c = search (rules, telling)

pub returns : goal.returns
returns c = search (rules, telling)
