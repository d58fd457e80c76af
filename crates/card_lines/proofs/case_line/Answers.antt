-- `card_lines::case_line` meets its contract. The key `case=`, the name that is due and the LF are read one after the other; the first that is wrong decides.
use borrow.Author.Rules.{rules}
use Rattle.text.proofs.Exits.{left_by}
use Rattle.card_lines.proofs.Pieces.{casing}
use Rattle.card_lines.proofs.case_line.Goals as goal

pub returns-in_err-n : goal.returns-in_err-n
returns-in_err-n c = left_by c.from_residual.ensures (search (rules, casing, c.in_err-n.was))

pub returns-in_err-k : goal.returns-in_err-k
returns-in_err-k c = left_by c.from_residual-in_err-k.ensures (search (rules, casing, c.in_ok-n.was, c.in_err-k.was))

pub returns-in_err-e : goal.returns-in_err-e
returns-in_err-e c = left_by c.from_residual-in_err-e.ensures (search (rules, casing, c.in_ok-n.was, c.in_ok-k.was, c.in_err-e.was))

pub returns : goal.returns
returns c = search (rules, casing, c.in_ok-n.was, c.in_ok-k.was, c.in_ok-e.was)
