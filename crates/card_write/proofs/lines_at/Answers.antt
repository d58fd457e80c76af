use borrow.Author.Rules.{rules}
use Rattle.card_write.proofs.Rows.{writing}
use Rattle.card_write.proofs.lines_at.Goals as goal

pub loop-i-preserved : goal.loop-i-preserved
loop-i-preserved g c = search (rules, writing)
