-- `card_lines::field_line` meets its contract. The value is read, and an LF behind it; the first that is wrong decides.
use borrow.Author.Rules.{rules}
use Rattle.text.proofs.Exits.{left_by}
use Rattle.card_lines.proofs.Pieces.{field_lining}
use Rattle.card_lines.proofs.field_line.Goals as goal

pub returns-in_err-v : goal.returns-in_err-v
returns-in_err-v c = left_by c.from_residual.ensures (search (rules, field_lining, c.in_err-v.was))

pub returns-in_err-line_end : goal.returns-in_err-line_end
returns-in_err-line_end c = left_by c.from_residual-in_err-line_end.ensures (search (rules, field_lining, c.in_ok-v.was, c.in_err-line_end.was))

pub overflow_add-v : goal.overflow_add-v
overflow_add-v c = search (rules, field_lining, c.in_ok-v.was)

pub returns : goal.returns
returns c = search (rules, field_lining, c.in_ok-v.was, c.in_ok-line_end.was)
