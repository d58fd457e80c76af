use borrow.Author.Rules.{rules}
use Rattle.card_write.proofs.Rows.{measuring}
use Rattle.card_write.proofs.lines_len.Goals as goal

pub loop-i-preserved : goal.loop-i-preserved
loop-i-preserved g c = search (rules, measuring)

pub returns : goal.returns
returns g c = search (rules, measuring)
