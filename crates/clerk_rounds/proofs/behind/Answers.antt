-- The place behind a place, around a circle.
use borrow.Author.Rules.{rules}
use Rattle.clerk_rounds.proofs.Laws.{following}
use Rattle.clerk_rounds.proofs.behind.Goals as goal

pub overflow_add-i : goal.overflow_add-i
overflow_add-i c = search (rules, following)

pub overflow_add-result : goal.overflow_add-result
overflow_add-result c = search (rules, following)

pub returns-then-i-len : goal.returns-then-i-len
returns-then-i-len c = search (rules, following)

pub returns : goal.returns
returns c = search (rules, following)
