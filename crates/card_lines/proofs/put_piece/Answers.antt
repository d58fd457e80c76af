-- `card_lines::put_piece` meets its contract. A space is read, and behind it a key and a value; the first that is wrong decides.
use borrow.Author.Rules.{rules}
use Rattle.text.proofs.Exits.{left_by}
use Rattle.card_lines.proofs.Pieces.{putting}
use Rattle.card_lines.proofs.put_piece.Goals as goal

pub returns-in_err-n : goal.returns-in_err-n
returns-in_err-n c = left_by c.from_residual.ensures (search (rules, putting, c.in_err-n.was))

pub returns-in_err-v : goal.returns-in_err-v
returns-in_err-v c = left_by c.from_residual-in_err-v.ensures (search (rules, putting, c.in_ok-n.was, c.in_err-v.was))

pub overflow_add-result : goal.overflow_add-result
overflow_add-result c = search (rules, putting, c.in_ok-n.was, c.in_ok-v.was)

pub returns : goal.returns
returns c = search (rules, putting, c.in_ok-n.was, c.in_ok-v.was)
