-- `card_read::read_card` meets its contract. A long card is refused, then the lines are read, then the first orphan decides.
use borrow.Author.Rules.{rules}
use Rattle.text.proofs.Exits.{left_by}
use Rattle.card_read.proofs.Cards.{papering}
use Rattle.card_read.proofs.read_card.Goals as goal

pub returns-in_err-c : goal.returns-in_err-c
returns-in_err-c c = left_by c.from_residual.ensures (search (rules, papering, c.in_err-c.was))

pub returns-in-Some : goal.returns-in-Some
returns-in-Some c = search (rules, papering, c.in_ok-c.was)
