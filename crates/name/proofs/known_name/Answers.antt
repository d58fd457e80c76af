use borrow.Author.Rules.{rules}
use Rattle.name.proofs.Pieces.{known_name_returns}
use Rattle.name.proofs.known_name.Goals as goal

pub returns-in_err-name : goal.returns-in_err-name
returns-in_err-name c = search (rules, known_name_returns)

pub returns-in_err-value : goal.returns-in_err-value
returns-in_err-value c = search (rules, known_name_returns)

pub returns : goal.returns
returns c = search (rules, known_name_returns)
