-- The codes of marks and of values, and what any code stands for.
use Rattle.std.specs.Prelude.{ℕ, zero, suc, Bool, List, map, eqb, get_or}
use Rattle.meaning.specs.Limits.{field_limit, status_limit}
use Rattle.meaning.specs.Kleene.{Kleene, true₃, false₃, unknown, known₃}
use Rattle.meaning.specs.Number.{Value, missing, number_at}
use Rattle.theory.specs.Lists.Padded.{padded}

-- MARKS

-- Kleene's values in two bits
abbrev pub code : Kleene → ℕ
code false₃ = 0
code unknown = 1
code true₃ = 2

-- what a mark stands for: any code above that of true counts as true
abbrev pub mark_of : ℕ → Kleene
mark_of zero = false₃
mark_of (suc zero) = unknown
mark_of (suc (suc n)) = true₃

-- the mark of a status that is yes or no
abbrev pub mark_code : Bool → ℕ
mark_code b = code (known₃ b)

-- a mark is yes
abbrev pub is_yes : ℕ → Bool
is_yes m = eqb m (code true₃)

-- the status at a place of the marks is yes
abbrev pub yes_at : List ℕ → ℕ → Bool
yes_at marks x = is_yes (get_or marks x 0)

-- the marks of all statuses
unfoldable pub marked : List Bool → List ℕ
marked bs = padded status_limit 0 (map mark_code bs)

-- the statuses that marks stand for
unfoldable pub side_of : List ℕ → List Bool
side_of ms = map is_yes ms

-- the status at a place, as a condition reads it
abbrev pub status_in : List ℕ → ℕ → Kleene
status_in marks x = mark_of (get_or marks x 0)

-- VALUES

-- a value in one number: 0 for `?`, otherwise the place and 1 more
abbrev pub coded : Value → ℕ
coded missing = 0
coded (number_at v) = suc v

-- the value that a number stands for
abbrev pub value_of : ℕ → Value
value_of zero = missing
value_of (suc v) = number_at v

-- the codes of the values of all fields
unfoldable pub valued : List Value → List ℕ
valued vs = padded field_limit 0 (map coded vs)

-- the value of the field at a place
abbrev pub field_in : List ℕ → ℕ → Value
field_in values f = value_of (get_or values f 0)
