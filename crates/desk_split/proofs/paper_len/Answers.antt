use borrow.Author.Rules.{rules}
use Rattle.desk_split.proofs.Laws.{passing}
use Rattle.desk_split.proofs.paper_len.Goals as goal

pub overflow_add-result : goal.overflow_add-result
overflow_add-result c = search (rules, passing)

pub returns-then-last_line : goal.returns-then-last_line
returns-then-last_line c = search (rules, passing)
