use borrow.Author.Rules.{rules}
use Rattle.text.proofs.Laws.{due_or_returns}
use Rattle.text.proofs.due_or.Goals as goal

pub returns-then-is_empty : goal.returns-then-is_empty
returns-then-is_empty g c = search (rules, due_or_returns)

pub returns-then-not-starts : goal.returns-then-not-starts
returns-then-not-starts g c = search (rules, due_or_returns)

pub returns : goal.returns
returns g c = search (rules, due_or_returns)
