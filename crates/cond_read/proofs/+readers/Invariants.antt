-- The three readers of a condition, which call each other, meet their contracts: each loop keeps that what answers the rest of its list answers the whole.
-- The measure is the nesting that is left.
use Rattle.std.proofs.Common.{◌+◌, ◌-◌, ◌*◌, length}
use Rattle.name.specs.Names.{names_in}
use Rattle.cond_read.proofs.Listed.{ands, ors, Going}
use Rattle.cond_read.proofs.+readers.Given as goal

abbrev pub decreases-and_list : goal.decreases-and_list
decreases-and_list l = 3 * l.around.nest + 1

abbrev pub decreases-condition : goal.decreases-condition
decreases-condition l = 3 * l.around.nest + 2

abbrev pub decreases-item : goal.decreases-item
decreases-item l = 3 * l.around.nest

abbrev pub invariant-and_list-loop-q : goal.invariant-and_list-loop-q
invariant-and_list-loop-q l =
    Going (ands (names_in l.statuses) (names_in l.fields) l.around.neg l.around.nest)
    l.s l.top l.leaves l.initial.words l.place l.joined l.words

abbrev pub decreases-and_list-loop-q : goal.decreases-and_list-loop-q
decreases-and_list-loop-q l = length l.s - l.place.bytes

abbrev pub invariant-condition-loop-q : goal.invariant-condition-loop-q
invariant-condition-loop-q l =
    Going (ors (names_in l.statuses) (names_in l.fields) l.around.neg l.around.nest)
    l.s l.top l.leaves l.initial.words l.place l.joined l.words

abbrev pub decreases-condition-loop-q : goal.decreases-condition-loop-q
decreases-condition-loop-q l = length l.s - l.place.bytes
