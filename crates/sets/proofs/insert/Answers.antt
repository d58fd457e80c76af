-- `sets::insert` puts a number in where it is not there yet: behind those below it.
use borrow.Author.Rules.{rules}
use Rattle.sets.proofs.Laws.{inserting}
use Rattle.sets.proofs.insert.Goals as goal

pub lower_bound-pos-requires : goal.lower_bound-pos-requires
lower_bound-pos-requires c = search (rules, inserting)

pub stands-requires : goal.stands-requires
stands-requires c = search (rules, inserting)

pub shape_of-a-then-stands : goal.shape_of-a-then-stands
shape_of-a-then-stands c = search (rules, inserting)

pub returns-then-stands : goal.returns-then-stands
returns-then-stands c = search (rules, inserting)

pub shift_in-requires : goal.shift_in-requires
shift_in-requires c = search (rules, inserting)

pub shape_of-a : goal.shape_of-a
shape_of-a c = search (rules, inserting)

pub returns : goal.returns
returns c = search (rules, inserting)
