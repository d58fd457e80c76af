-- The outlook: fillings, their patterns and the list that holds them; cuts and parts; and the list computed from the parts.
use Rattle.std.specs.Prelude.{ℕ, suc, ◌-◌, ◌*◌, ◌≤◌, ◌<◌, ◌≡◌, Bool, true, false, not, ◌&&◌, cond, List, [], ◌∷◌, map, ◌↔◌, length, get_or, leb, ltb, eqb}
use Rattle.std.specs.Bool.{beq}
use Rattle.meaning.specs.Text.{In, any, keep, joined}
use Rattle.meaning.specs.Limits.{part_limit, highest}
use Rattle.meaning.specs.Number.{Value, missing, number_at}
use Rattle.meaning.specs.Condition.{Comparison, Leaf, answers}
use Rattle.meaning.specs.Tests.{Test, leaves_in}
use Rattle.meaning.specs.Step.{Moment, Meets, leads_to, pattern}

-- WHAT IS MEANT

-- "A filling gives every field that is `?` after the event a number in the range; statuses before stay"
pub record Fills (given filled : List Value) : Type 0 where
  pub long : length filled ≡ length given
  pub kept : (f v : ℕ) → get_or given f missing ≡ number_at v → get_or filled f missing ≡ number_at v
  pub ranged : (f : ℕ) → f < length given → get_or given f missing ≡ missing → (v : ℕ) × (v ≤ highest) × (get_or filled f missing ≡ number_at v)

-- the moment with other values: "statuses before stay"
unfoldable pub filled_with : Moment → List Value → Moment
filled_with m vs = record { event = m.event; values = vs; before = m.before }

-- some filling has the next pattern p: "Each filling has one next pattern: bit i of a 32-bit number is status i, stages first, then miles, from bit 0"
pub record Gives (ts : List Test) (m : Moment) (p : ℕ) : Type 0 where
  pub filled : List Value
  pub fills : Fills m.values filled
  pub after : List Bool
  pub meets : Meets ts (filled_with m filled) after
  pub is : pattern after ≡ p

-- "The list holds each pattern that some filling gives, once, ascending"
pub record IsOutlook (ts : List Test) (m : Moment) (list : List ℕ) : Type 0 where
  pub each : (p : ℕ) → In p list ↔ Gives ts m p
  pub ascending : (i j : ℕ) → i < j → j < length list → get_or list i 0 < get_or list j 0

-- a comparison of the field f
abbrev pub compares : ℕ → Leaf → List Comparison
compares f (Leaf.status x) = []
compares f (Leaf.compare c) = cond (eqb c.field f) (c ∷ []) []

-- "some comparison of that field on the sheet": those of the tests
unfoldable pub comparisons : List Test → ℕ → List Comparison
comparisons ts f = joined (compares f) (leaves_in ts)

-- a value "at least -999999999 and at most 1000000000", where the comparison "answers differently at v-1 and v"
unfoldable pub cuts_at : Comparison → ℕ → Bool
cuts_at c v = ltb 0 v && leb v highest && not (beq (answers c.operator c.number (v - 1)) (answers c.operator c.number v))

-- "A cut of a field is a value v, at least -999999999 and at most 1000000000, where some comparison of that field on the sheet answers differently at v-1 and
-- v"
unfoldable pub is_cut : List Test → ℕ → ℕ → Bool
is_cut ts f v = any (λ c. cuts_at c v) (comparisons ts f)

-- HOW IT IS COMPUTED

-- a number put into an ascending list, unless it is there
unfoldable pub insert : ℕ → List ℕ → List ℕ
insert v [] = v ∷ []
insert v (x ∷ xs) = elim (ltb v x) [ true ↦ v ∷ x ∷ xs | false ↦ elim (eqb v x) [ true ↦ x ∷ xs | false ↦ x ∷ insert v xs ] ]

-- the members of a list, once, ascending
unfoldable pub ascending : List ℕ → List ℕ
ascending [] = []
ascending (x ∷ xs) = insert x (ascending xs)

-- "A cut of a field is a value v, at least -999999999 and at most 1000000000, where some comparison of that field on the sheet answers differently at v-1 and
-- v": a comparison can cut only at its number and at the next
unfoldable pub cuts : List Test → ℕ → List ℕ
cuts ts f = ascending (joined (λ c. keep (cuts_at c) (c.number ∷ suc c.number ∷ [])) (comparisons ts f))

-- "the product of the parts over the `?` fields", from place f on; "A field has one part more than it has cuts"
unfoldable pub parts : List Test → ℕ → List Value → ℕ
parts ts f [] = 1
parts ts f (missing ∷ vs) = suc (length (cuts ts f)) * parts ts (suc f) vs
parts ts f (number_at v ∷ vs) = parts ts (suc f) vs

-- "MANY is given exactly when the product of the parts over the `?` fields exceeds 4,096"
unfoldable pub many : List Test → Moment → Bool
many ts m = ltb part_limit (parts ts 0 m.values)

-- the values to be tried in the fields from place f on: of a `?` the lowest of each part, which is -1000000000 or a cut
unfoldable pub tried : List Test → ℕ → List Value → List (List Value)
tried ts f [] = []
tried ts f (missing ∷ vs) = (number_at 0 ∷ map number_at (cuts ts f)) ∷ tried ts (suc f) vs
tried ts f (number_at v ∷ vs) = (number_at v ∷ []) ∷ tried ts (suc f) vs

-- all ways to choose one of each list
unfoldable pub choices : List (List Value) → List (List Value)
choices [] = [] ∷ []
choices (r ∷ rs) = joined (λ v. map (λ w. v ∷ w) (choices rs)) r

-- "The list holds each pattern that some filling gives, once, ascending": each from a run of the testing order o
unfoldable pub patterns : List Test → List ℕ → Moment → List ℕ
patterns ts o m = ascending (map (λ vs. pattern (leads_to ts (filled_with m vs) o)) (choices (tried ts 0 m.values)))
