use borrow.Author.Rules.{rules}
use Rattle.desk_print.proofs.Laws.{listing}
use Rattle.desk_output.proofs.Lines.{patterns_room}
use Rattle.desk_output.proofs.put_patterns.Goals as goal

pub loop-i-init : goal.loop-i-init
loop-i-init c = search (rules, listing, patterns_room)

pub offset_bounds-patterns-i : goal.offset_bounds-patterns-i
offset_bounds-patterns-i c = search (rules, listing, patterns_room)

pub bounds-patterns-i : goal.bounds-patterns-i
bounds-patterns-i c = search (rules, listing, patterns_room)

pub put_pattern-to-requires : goal.put_pattern-to-requires
put_pattern-to-requires c = search (rules, listing, patterns_room)

pub overflow_add-i : goal.overflow_add-i
overflow_add-i c = search (rules, listing, patterns_room)

pub loop-i-smaller : goal.loop-i-smaller
loop-i-smaller c = search (rules, listing, patterns_room)

pub loop-i-preserved : goal.loop-i-preserved
loop-i-preserved c = search (rules, listing, patterns_room)

pub shape_of-out : goal.shape_of-out
shape_of-out c = search (rules, listing, patterns_room)

pub returns : goal.returns
returns c = search (rules, listing, patterns_room)
