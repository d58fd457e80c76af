-- A card that does not fit is not begun; one that fits is written whole.
use borrow.Author.Rules.{rules}
use Rattle.card_write.proofs.Whole.{rooming}
use Rattle.card_write.proofs.write_card.Goals as goal

pub returns-clause-space : goal.returns-clause-space
returns-clause-space c = search (rules, rooming)
