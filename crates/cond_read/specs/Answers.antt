-- What the code answers for what the meaning reads, and what the lent words then are.
use Rattle.std.specs.Prelude.{ℕ, List, Result}
use Rattle.meaning.specs.Reading.{Got}
use Rattle.meaning.specs.Condition.{Cond, leaves_c}
use Rattle.reply.specs.declared.Fault.{Fault}
use Rattle.cond_value.specs.Flat.{words}
use Rattle.cond_item.specs.declared.Place.{Place}
use Rattle.cond_item.specs.Answers.{as_place, stored_by}

-- a condition read at the start of s, behind `top` words and `leaves` leaves: the bytes that it took, and the words and leaves that there are now
abbrev pub as_condition : List ℕ → ℕ → ℕ → Got Cond → Result Place Fault
as_condition s top leaves g = as_place words leaves_c s top leaves g

-- the lent words: those of the condition from `top` on; where it is refused, all from `top` on are cleared
abbrev pub stored : List ℕ → ℕ → Got Cond → List ℕ
stored was top g = stored_by words was top g
