-- What callers use: the line of a refusal fits whatever space has room for one.
use Prim.Native.Nat.{ℕ, ◌≤◌}
use mathlib.Core.List.{List}
use native.Mathlib.Omega.{arith}
use lib.Dec.{T, leb, leb→le}
use lib.ListN.{length}
use Rattle.meaning.specs.Desk.{refusal_text}
use Rattle.theory.specs.Clerk.Checks.{refusal_few}
use Rattle.desk_rooms.specs.Rooms.{refusal_line}

pub refusal_room : (room : ℕ) → T (leb refusal_line room) → (n p l : ℕ) (o : List ℕ) → room ≤ length o → length (refusal_text n p l) ≤ length o
refusal_room room fits n p l o h = let enough : refusal_line ≤ room = leb→le refusal_line room fits in omega (arith, refusal_few n p l)
