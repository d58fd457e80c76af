-- `card_lines::field_value` meets its contract. What stands behind the name and `=` is read as an entry; its place is the length of both.
use borrow.Author.Rules.{rules}
use Rattle.text.proofs.Exits.{left_by}
use Rattle.card_lines.proofs.Pieces.{valuing}
use Rattle.card_lines.proofs.field_value.Goals as goal

pub returns-in_err-start : goal.returns-in_err-start
returns-in_err-start c = left_by c.from_residual.ensures (search (rules, valuing, c.in_err-start.was))

pub returns-in_err-e : goal.returns-in_err-e
returns-in_err-e c = left_by c.from_residual-in_err-e.ensures (search (rules, valuing, c.in_ok-start.was, c.in_err-e.was))

pub returns : goal.returns
returns c = search (rules, valuing, c.in_ok-start.was, c.in_ok-e.was)
