-- The lines of the stages' names.
use borrow.Author.Rules.{rules}
use Rattle.desk_output.proofs.Laws.{tasking}
use Rattle.desk_output.proofs.put_tasks.Goals as goal

pub overflow_add-first : goal.overflow_add-first
overflow_add-first c = search (rules, tasking)

pub slice_bounds-put_starts-end : goal.slice_bounds-put_starts-end
slice_bounds-put_starts-end c = search (rules, tasking)

pub put_starts-requires : goal.put_starts-requires
put_starts-requires c = search (rules, tasking)

pub shape_of-out : goal.shape_of-out
shape_of-out c = search (rules, tasking)

pub returns : goal.returns
returns c = search (rules, tasking)
