-- A refusal of the papers, or the outlook in names of the case that was read.
use borrow.Author.Rules.{rules}
use Rattle.meaning.specs.Clerk.{outlook_printed}
use Rattle.case_read.proofs.Callers.{printed_refused}
use Rattle.desk_rooms.specs.Rooms.{named_room}
use Rattle.desk_rooms.proofs.Callers.{refusal_room}
use Rattle.clerk_outlook.proofs.Laws.{of_case, casing}
use Rattle.clerk_outlook.proofs.print_outlook.Goals as goal

pub read_case-case-requires : goal.read_case-case-requires
read_case-case-requires c = search (rules, casing)

pub put_refusal-requires : goal.put_refusal-requires
put_refusal-requires c = search (rules, refusal_room named_room tt)

pub shape_of-out-then-case-ne0 : goal.shape_of-out-then-case-ne0
shape_of-out-then-case-ne0 c = search (rules, casing)

pub returns-then-case-ne0 : goal.returns-then-case-ne0
unfolding outlook_printed
returns-then-case-ne0 c = search (rules, printed_refused of_case)

pub print_named-requires : goal.print_named-requires
print_named-requires c = search (rules, casing)

pub shape_of-out : goal.shape_of-out
shape_of-out c = search (rules, casing)

pub returns : goal.returns
returns c = search (rules, casing)
