use borrow.Author.Rules.{rules}
use Rattle.name.proofs.Pieces.{due_name_returns}
use Rattle.name.proofs.due_name.Goals as goal

pub returns-in_err-name : goal.returns-in_err-name
returns-in_err-name c = search (rules, due_name_returns)

pub returns-then-ne : goal.returns-then-ne
returns-then-ne c = search (rules, due_name_returns)

pub returns : goal.returns
returns c = search (rules, due_name_returns)
