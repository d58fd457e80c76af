-- The list where it fits; MANY, or ROOM.
use borrow.Author.Rules.{rules}
use Rattle.outlook_case.proofs.Laws.{answering}
use Rattle.outlook_case.proofs.outlook_case.Goals as goal

pub list_case-listed-requires : goal.list_case-listed-requires
list_case-listed-requires c = search (rules, answering)

pub refusal-requires : goal.refusal-requires
refusal-requires c = search (rules, answering)

pub returns-in_default : goal.returns-in_default
returns-in_default c = search (rules, answering)

pub refusal-requires-then-out-count : goal.refusal-requires-then-out-count
refusal-requires-then-out-count c = search (rules, answering)

pub returns-then-out-count : goal.returns-then-out-count
returns-then-out-count c = search (rules, answering)

pub slice_bounds-copy_front-end : goal.slice_bounds-copy_front-end
slice_bounds-copy_front-end c = search (rules, answering)

pub copy_front-requires : goal.copy_front-requires
copy_front-requires c = search (rules, answering)

pub shape_of-out : goal.shape_of-out
shape_of-out c = search (rules, answering)

pub returns : goal.returns
returns c = search (rules, answering)
