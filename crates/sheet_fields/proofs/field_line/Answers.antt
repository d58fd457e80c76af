-- Behind the name the line ends.
use borrow.Author.Rules.{rules}
use Rattle.text.proofs.Exits.{left_by}
use Rattle.sheet_fields.proofs.Fields.{lining}
use Rattle.sheet_fields.proofs.field_line.Goals as goal

pub returns-in_err-end : goal.returns-in_err-end
returns-in_err-end c = left_by c.from_residual-in_err-end.ensures (search (rules, lining, c.in_ok-name.was, c.in_err-end.was))

pub returns : goal.returns
returns c = search (rules, lining, c.in_ok-name.was, c.in_ok-end.was)
