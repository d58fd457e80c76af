-- One piece is put behind the other: the first line, those of the fields and of the statuses, and the last one.
use borrow.Author.Rules.{rules}
use Rattle.card_write.proofs.Whole.{carding}
use Rattle.card_write.proofs.put_card.Goals as goal

pub lines_at-b-requires : goal.lines_at-b-requires
lines_at-b-requires c = search (rules, carding)

pub put_end-requires : goal.put_end-requires
put_end-requires c = search (rules, carding)

pub returns : goal.returns
returns c = search (rules, carding)
