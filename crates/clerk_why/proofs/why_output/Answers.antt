-- LONG, or the three papers of the input.
use borrow.Author.Rules.{rules}
use Rattle.meaning.specs.Clerk.{why_output}
use Rattle.desk_split.proofs.Callers.{splitting, input_long, input_done}
use Rattle.desk_rooms.specs.Rooms.{why_room}
use Rattle.desk_rooms.proofs.Callers.{refusal_room}
use Rattle.clerk_why.proofs.Laws.{of_papers}
use Rattle.clerk_why.proofs.why_output.Goals as goal

pub put_refusal-requires : goal.put_refusal-requires
put_refusal-requires c = search (rules, refusal_room why_room tt)

pub returns-then-input-gt-DESK_BYTES : goal.returns-then-input-gt-DESK_BYTES
unfolding why_output
returns-then-input-gt-DESK_BYTES c = search (rules, input_long of_papers)

pub slice_bounds-print_why-end : goal.slice_bounds-print_why-end
slice_bounds-print_why-end c = search (rules, splitting)

pub slice_bounds-print_why-end-2 : goal.slice_bounds-print_why-end-2
slice_bounds-print_why-end-2 c = search (rules, splitting)

pub returns : goal.returns
unfolding why_output
returns c = search (rules, splitting, input_done of_papers)
