-- The sheet's refusal, or its blank card.
use borrow.Author.Rules.{rules}
use Rattle.desk_rooms.specs.Rooms.{card_room}
use Rattle.desk_rooms.proofs.Callers.{refusal_room}
use Rattle.clerk_check.proofs.Blank.{telling}
use Rattle.clerk_check.proofs.blank_output.Goals as goal

pub put_refusal-requires : goal.put_refusal-requires
put_refusal-requires c = search (rules, refusal_room card_room tt)

pub returns-then-sheet-ne0 : goal.returns-then-sheet-ne0
returns-then-sheet-ne0 c = search (rules, telling)

pub put_blank-requires : goal.put_blank-requires
put_blank-requires c = search (rules, telling)

pub returns : goal.returns
returns c = search (rules, telling)
