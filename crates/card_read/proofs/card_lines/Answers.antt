-- `card_read::card_lines` meets its contract. The first line, the fields, the statuses and the last line are read one after the other; the first that is wrong
-- decides.
use borrow.Author.Rules.{rules}
use Rattle.text.proofs.Exits.{left_by}
use Rattle.card_read.proofs.Cards.{carding}
use Rattle.card_read.proofs.card_lines.Goals as goal

pub returns-in_err-n : goal.returns-in_err-n
returns-in_err-n c = left_by c.from_residual.ensures (search (rules, carding, c.in_err-n.was))

pub returns-in_err-f : goal.returns-in_err-f
returns-in_err-f c = left_by c.from_residual-in_err-f.ensures (search (rules, carding, c.in_ok-n.was, c.in_err-f.was))

pub returns-in_err-m : goal.returns-in_err-m
returns-in_err-m c = left_by c.from_residual-in_err-m.ensures (search (rules, carding, c.in_ok-n.was, c.in_ok-f.was, c.in_err-m.was))

pub returns-in-Err : goal.returns-in-Err
returns-in-Err c = search (rules, carding, c.in_ok-n.was, c.in_ok-f.was, c.in_ok-m.was)

pub returns-in-Ok : goal.returns-in-Ok
returns-in-Ok c = search (rules, carding, c.in_ok-n.was, c.in_ok-f.was, c.in_ok-m.was)

pub overflow_add-result-in-Err : goal.overflow_add-result-in-Err
overflow_add-result-in-Err c = search (rules, carding)
