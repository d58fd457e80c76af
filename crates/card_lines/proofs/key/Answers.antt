-- `card_lines::key` meets its contract. The name that is due and `=` are read one after the other; the first that is wrong decides.
use borrow.Author.Rules.{rules}
use Rattle.text.proofs.Exits.{left_by}
use Rattle.card_lines.proofs.Pieces.{keying}
use Rattle.card_lines.proofs.key.Goals as goal

pub returns-in_err-n : goal.returns-in_err-n
returns-in_err-n c = left_by c.from_residual.ensures (search (rules, keying, c.in_err-n.was))

pub returns-in_err-k : goal.returns-in_err-k
returns-in_err-k c = left_by c.from_residual-in_err-k.ensures (search (rules, keying, c.in_ok-n.was, c.in_err-k.was))

pub returns : goal.returns
returns c = search (rules, keying, c.in_ok-n.was, c.in_ok-k.was)
