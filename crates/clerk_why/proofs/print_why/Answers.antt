-- A refusal of the papers; or the reasons in an array of their own, then a line for each.
use borrow.Author.Rules.{rules}
use Rattle.meaning.specs.Clerk.{why_printed}
use Rattle.case_read.proofs.Callers.{taking, printed_refused}
use Rattle.desk_rooms.specs.Rooms.{why_room}
use Rattle.desk_rooms.proofs.Callers.{refusal_room}
use Rattle.clerk_why.proofs.Laws.{of_case, casing}
use Rattle.clerk_why.proofs.print_why.Goals as goal

pub read_case-case-requires : goal.read_case-case-requires
read_case-case-requires c = search (rules, taking, casing)

pub put_refusal-requires : goal.put_refusal-requires
put_refusal-requires c = search (rules, refusal_room why_room tt)

pub shape_of-out-then-case-ne0 : goal.shape_of-out-then-case-ne0
shape_of-out-then-case-ne0 c = search (rules, taking, casing)

pub returns-then-case-ne0 : goal.returns-then-case-ne0
unfolding why_printed
returns-then-case-ne0 c = search (rules, printed_refused of_case)

pub moment_of-moment-requires : goal.moment_of-moment-requires
moment_of-moment-requires c = search (rules, taking, casing)

pub slice_bounds-why_case-end : goal.slice_bounds-why_case-end
slice_bounds-why_case-end c = search (rules, taking, casing)

pub why_case-reply-requires : goal.why_case-reply-requires
why_case-reply-requires c = search (rules, taking, casing)

pub slice_bounds-list-end : goal.slice_bounds-list-end
slice_bounds-list-end c = search (rules, taking, casing)

pub slice_bounds-put_reasons-end : goal.slice_bounds-put_reasons-end
slice_bounds-put_reasons-end c = search (rules, taking, casing)

pub put_reasons-requires : goal.put_reasons-requires
put_reasons-requires c = search (rules, taking, casing)

pub shape_of-out : goal.shape_of-out
shape_of-out c = search (rules, taking, casing)

pub returns : goal.returns
returns c = search (rules, taking, casing)
