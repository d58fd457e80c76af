-- The line of a task, or nothing.
use borrow.Author.Rules.{rules}
use Rattle.desk_print.proofs.Laws.{starting}
use Rattle.desk_print.proofs.put_start.Goals as goal

pub returns-then-tasks-ne1 : goal.returns-then-tasks-ne1
returns-then-tasks-ne1 c = search (rules, starting)

pub put_line-requires : goal.put_line-requires
put_line-requires c = search (rules, starting)

pub returns : goal.returns
returns c = search (rules, starting)
