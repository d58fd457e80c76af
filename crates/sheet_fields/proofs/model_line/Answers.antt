-- Each return is one piece of the line that is refused, or the whole line.
use borrow.Author.Rules.{rules}
use Rattle.text.proofs.Exits.{left_by}
use Rattle.sheet_fields.proofs.Model.{lining}
use Rattle.sheet_fields.proofs.model_line.Goals as goal

pub returns-in_err-key : goal.returns-in_err-key
returns-in_err-key c = left_by c.from_residual.ensures (search (rules, lining, c.in_err-key.was))

pub returns-in_err-name : goal.returns-in_err-name
returns-in_err-name c = left_by c.from_residual-in_err-name.ensures (search (rules, lining, c.in_ok-key.was, c.in_err-name.was))

pub returns-in_err-end : goal.returns-in_err-end
returns-in_err-end c = left_by c.from_residual-in_err-end.ensures (search (rules, lining, c.in_ok-key.was, c.in_ok-name.was, c.in_err-end.was))

pub returns : goal.returns
returns c = search (rules, lining, c.in_ok-key.was, c.in_ok-name.was, c.in_ok-end.was)
