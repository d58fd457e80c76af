use borrow.Author.Rules.{rules}
use Rattle.desk_output.proofs.Lines.{starting}
use Rattle.desk_output.proofs.put_starts.Goals as goal

pub loop-left-init : goal.loop-left-init
loop-left-init c = search (rules, starting)

pub at-w-requires : goal.at-w-requires
at-w-requires c = search (rules, starting)

pub put_start-to-requires : goal.put_start-to-requires
put_start-to-requires c = search (rules, starting)

pub overflow_add-i : goal.overflow_add-i
overflow_add-i c = search (rules, starting)

pub overflow_sub-left : goal.overflow_sub-left
overflow_sub-left c = search (rules, starting)

pub loop-left-smaller : goal.loop-left-smaller
loop-left-smaller c = search (rules, starting)

pub loop-left-preserved : goal.loop-left-preserved
loop-left-preserved c = search (rules, starting)

pub shape_of-out : goal.shape_of-out
shape_of-out c = search (rules, starting)

pub returns : goal.returns
returns c = search (rules, starting)
