-- The reasons where they fit; otherwise ROOM.
use borrow.Author.Rules.{rules}
use Rattle.why_case.proofs.Laws.{answering}
use Rattle.why_case.proofs.why_case.Goals as goal

pub list_all-count-requires : goal.list_all-count-requires
list_all-count-requires c = search (rules, answering)

pub refusal-requires : goal.refusal-requires
refusal-requires c = search (rules, answering)

pub returns-then-out-count : goal.returns-then-out-count
returns-then-out-count c = search (rules, answering)

pub slice_bounds-copy_front-end : goal.slice_bounds-copy_front-end
slice_bounds-copy_front-end c = search (rules, answering)

pub copy_front-requires : goal.copy_front-requires
copy_front-requires c = search (rules, answering)

pub shape_of-out : goal.shape_of-out
shape_of-out c = search (rules, answering)

pub returns : goal.returns
returns c = search (rules, answering)
