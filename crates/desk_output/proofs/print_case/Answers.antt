-- A refusal of the papers; or the next card with the tasks, then the outlook.
use borrow.Author.Rules.{rules}
use Rattle.meaning.specs.Desk.{printed}
use Rattle.case_read.proofs.Callers.{taking, printed_refused}
use Rattle.desk_rooms.specs.Rooms.{desk_room}
use Rattle.desk_rooms.proofs.Callers.{refusal_room}
use Rattle.desk_output.proofs.Laws.{of_case, casing}
use Rattle.desk_output.proofs.print_case.Goals as goal

pub read_case-case-requires : goal.read_case-case-requires
read_case-case-requires c = search (rules, taking, casing)

pub put_refusal-requires : goal.put_refusal-requires
put_refusal-requires c = search (rules, refusal_room desk_room tt)

pub shape_of-out-then-case-ne0 : goal.shape_of-out-then-case-ne0
shape_of-out-then-case-ne0 c = search (rules, taking, casing)

pub returns-then-case-ne0 : goal.returns-then-case-ne0
unfolding printed
returns-then-case-ne0 c = search (rules, printed_refused of_case)

pub put_step-at-requires : goal.put_step-at-requires
put_step-at-requires c = search (rules, taking, casing)

pub put_coming-requires : goal.put_coming-requires
put_coming-requires c = search (rules, taking, casing)

pub shape_of-out : goal.shape_of-out
shape_of-out c = search (rules, taking, casing)

pub returns : goal.returns
returns c = search (rules, taking, casing)
