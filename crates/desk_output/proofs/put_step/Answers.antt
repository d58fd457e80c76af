-- The next card, then the tasks.
use borrow.Author.Rules.{rules}
use Rattle.desk_output.proofs.Laws.{stepping}
use Rattle.desk_output.proofs.put_step.Goals as goal

pub step_case-reply-requires : goal.step_case-reply-requires
step_case-reply-requires c = search (rules, stepping)

pub put_tasks-requires : goal.put_tasks-requires
put_tasks-requires c = search (rules, stepping)

pub shape_of-out : goal.shape_of-out
shape_of-out c = search (rules, stepping)

pub returns : goal.returns
returns c = search (rules, stepping)
