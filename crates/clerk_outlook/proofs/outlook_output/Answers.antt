-- LONG, or the three papers of the input.
use borrow.Author.Rules.{rules}
use Rattle.meaning.specs.Clerk.{outlook_output}
use Rattle.desk_split.proofs.Callers.{splitting, input_long, input_done}
use Rattle.desk_rooms.specs.Rooms.{named_room}
use Rattle.desk_rooms.proofs.Callers.{refusal_room}
use Rattle.clerk_outlook.proofs.Laws.{of_papers}
use Rattle.clerk_outlook.proofs.outlook_output.Goals as goal

pub put_refusal-requires : goal.put_refusal-requires
put_refusal-requires c = search (rules, refusal_room named_room tt)

pub shape_of-out-then-input-gt-DESK_BYTES : goal.shape_of-out-then-input-gt-DESK_BYTES
shape_of-out-then-input-gt-DESK_BYTES c = search (rules, splitting)

pub returns-then-input-gt-DESK_BYTES : goal.returns-then-input-gt-DESK_BYTES
unfolding outlook_output
returns-then-input-gt-DESK_BYTES c = search (rules, input_long of_papers)

pub paper_len-a-requires : goal.paper_len-a-requires
paper_len-a-requires c = search (rules, splitting)

pub rest-rest-requires : goal.rest-rest-requires
rest-rest-requires c = search (rules, splitting)

pub paper_len-b-requires : goal.paper_len-b-requires
paper_len-b-requires c = search (rules, splitting)

pub slice_bounds-print_outlook-end : goal.slice_bounds-print_outlook-end
slice_bounds-print_outlook-end c = search (rules, splitting)

pub slice_bounds-print_outlook-end-2 : goal.slice_bounds-print_outlook-end-2
slice_bounds-print_outlook-end-2 c = search (rules, splitting)

pub rest-requires : goal.rest-requires
rest-requires c = search (rules, splitting)

pub print_outlook-requires : goal.print_outlook-requires
print_outlook-requires c = search (rules, splitting)

pub shape_of-out : goal.shape_of-out
shape_of-out c = search (rules, splitting)

pub returns : goal.returns
unfolding outlook_output
returns c = search (rules, splitting, input_done of_papers)
