use borrow.Author.Rules.{rules}
use Rattle.name.proofs.Pieces.{new_name_returns}
use Rattle.name.proofs.new_name.Goals as goal

pub returns-in_err-name : goal.returns-in_err-name
returns-in_err-name c = search (rules, new_name_returns)

pub returns-then-is_some : goal.returns-then-is_some
returns-then-is_some c = search (rules, new_name_returns)

pub returns : goal.returns
returns c = search (rules, new_name_returns)
