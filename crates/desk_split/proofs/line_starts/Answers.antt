use borrow.Author.Rules.{rules}
use Rattle.desk_split.proofs.Laws.{starting}
use Rattle.desk_split.proofs.line_starts.Goals as goal

pub overflow_add-at : goal.overflow_add-at
overflow_add-at c = search (rules, starting)

pub loop-l-preserved : goal.loop-l-preserved
loop-l-preserved c = search (rules, starting)
