-- LONG, or the three papers of the input.
use borrow.Author.Rules.{rules}
use Rattle.meaning.specs.Desk.{desk_output}
use Rattle.desk_split.proofs.Callers.{splitting, input_long, input_done}
use Rattle.desk_rooms.specs.Rooms.{desk_room}
use Rattle.desk_rooms.proofs.Callers.{refusal_room}
use Rattle.desk_output.proofs.Laws.{of_papers}
use Rattle.desk_output.proofs.desk_output.Goals as goal

pub put_refusal-requires : goal.put_refusal-requires
put_refusal-requires c = search (rules, refusal_room desk_room tt)

pub shape_of-out-then-input-gt-DESK_BYTES : goal.shape_of-out-then-input-gt-DESK_BYTES
shape_of-out-then-input-gt-DESK_BYTES c = search (rules, splitting)

pub returns-then-input-gt-DESK_BYTES : goal.returns-then-input-gt-DESK_BYTES
unfolding desk_output
returns-then-input-gt-DESK_BYTES c = search (rules, input_long of_papers)

pub paper_len-a-requires : goal.paper_len-a-requires
paper_len-a-requires c = search (rules, splitting)

pub rest-rest-requires : goal.rest-rest-requires
rest-rest-requires c = search (rules, splitting)

pub paper_len-b-requires : goal.paper_len-b-requires
paper_len-b-requires c = search (rules, splitting)

pub slice_bounds-print_case-end : goal.slice_bounds-print_case-end
slice_bounds-print_case-end c = search (rules, splitting)

pub slice_bounds-print_case-end-2 : goal.slice_bounds-print_case-end-2
slice_bounds-print_case-end-2 c = search (rules, splitting)

pub rest-requires : goal.rest-requires
rest-requires c = search (rules, splitting)

pub print_case-requires : goal.print_case-requires
print_case-requires c = search (rules, splitting)

pub shape_of-out : goal.shape_of-out
shape_of-out c = search (rules, splitting)

pub returns : goal.returns
unfolding desk_output
returns c = search (rules, splitting, input_done of_papers)
