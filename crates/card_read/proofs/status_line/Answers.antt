-- `card_read::status_line` meets its contract. The sheet for which the tables stand has as many fields as they count.
use borrow.Author.Rules.{rules}
use Rattle.card_read.proofs.Cards.{lining}
use Rattle.card_read.proofs.status_line.Goals as goal

pub returns : goal.returns
returns c = search (rules, lining)
