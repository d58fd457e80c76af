-- `card_lines::mark_line` meets its contract. The key, the word and the LF are read one after the other; the first that is wrong decides.
use borrow.Author.Rules.{rules}
use Rattle.text.proofs.Exits.{left_by}
use Rattle.card_lines.proofs.Pieces.{mark_lining}
use Rattle.card_lines.proofs.mark_line.Goals as goal

pub returns-in_err-n : goal.returns-in_err-n
returns-in_err-n c = left_by c.from_residual.ensures (search (rules, mark_lining, c.in_err-n.was))

pub returns-in_err-m : goal.returns-in_err-m
returns-in_err-m c = left_by c.from_residual-in_err-m.ensures (search (rules, mark_lining, c.in_ok-n.was, c.in_err-m.was))

pub returns-in_err-e : goal.returns-in_err-e
returns-in_err-e c = left_by c.from_residual-in_err-e.ensures (search (rules, mark_lining, c.in_ok-n.was, c.in_ok-m.was, c.in_err-e.was))

pub returns : goal.returns
returns c = search (rules, mark_lining, c.in_ok-n.was, c.in_ok-m.was, c.in_ok-e.was)
