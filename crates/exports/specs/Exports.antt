-- How a reply is told to a caller in another language: five numbers in the places lent for them, and the refusal's number.
use Rattle.std.specs.Prelude.{ℕ, cond, List, ◌∷◌, [], ◌++◌, length, drop, leb}
use Rattle.meaning.specs.Refusal.{ROOM}
use Rattle.reply.specs.declared.Reply.{Reply}

-- the numbers of a reply, in the order in which they are told
abbrev pub numbers : Reply → List ℕ
numbers r = r.number ∷ r.paper ∷ r.line ∷ r.count ∷ r.tasks ∷ []

-- what is asked for, where five places are lent; otherwise the call is refused and this stands in its stead
unfoldable pub with_places : {A : Type 0} → List ℕ → A → A → A
with_places places asked otherwise = cond (leb 5 (length places)) asked otherwise

-- what is returned: the refusal's number, 0 when taken; ROOM where there are too few places
unfoldable pub number_told : List ℕ → Reply → ℕ
number_told places r = with_places places r.number ROOM

-- the places afterwards: what is behind the fifth is untouched
unfoldable pub places_told : List ℕ → Reply → List ℕ
places_told places r = with_places places (numbers r ++ drop 5 places) places

-- what is asked for, where a program is lent room for all that it can print; otherwise this stands in its stead
unfoldable pub with_room : {A : Type 0} → ℕ → List ℕ → A → A → A
with_room least lent asked otherwise = cond (leb least (length lent)) asked otherwise
