-- The values to be tried in each field, as codes, and what is left of them in lent space.
use Rattle.std.specs.Prelude.{ℕ, suc, ◌+◌, ◌*◌, ◌<◌, ◌≡◌, cond, ◌&&◌, Option, None, Some, List, [], ◌∷◌, ◌++◌, map, ltb, eqb, length, get_or, drop}
use Rattle.meaning.specs.Limits.{field_limit, part_limit}
use Rattle.limits.specs.Sizes.{word_room}
use Rattle.outlook_cuts.specs.Codes.{cut_codes}
use Rattle.outlook_combos.specs.Numbered.{size, strung}

-- how many values a field can have: the lowest number, and two cuts for each word
abbrev pub tried_most : ℕ
tried_most = 2 * word_room + 1

-- room for all lists, which together have no more values than parts and one for each field; and behind them for one field more, with which the parts are too
-- many
abbrev pub flat_room : ℕ
flat_room = part_limit + field_limit + tried_most

-- the codes of values are numbers that a list can hold
pub record Coded (values : List ℕ) : Type 0 where
  pub low : (f : ℕ) → f < field_limit → get_or values f 0 < 4294967296

-- in the field f, whose value has the code v: of a `?` the lowest of each part, which is the lowest number or a cut; a number itself. Behind the fields stand
-- codes that are left
unfoldable pub tried_at : List ℕ → ℕ → ℕ → ℕ → List ℕ
tried_at ws fields f v = cond (ltb f fields && eqb v 0) (1 ∷ cut_codes f ws) (v ∷ [])

-- in the fields from f on, whose values have these codes
unfoldable pub tried_from : List ℕ → ℕ → ℕ → List ℕ → List (List ℕ)
tried_from ws fields f [] = []
tried_from ws fields f (v ∷ vs) = tried_at ws fields f v ∷ tried_from ws fields (suc f) vs

-- the lists up to the one with which the product of their lengths, p so far, exceeds the limit
unfoldable pub until : ℕ → List (List ℕ) → List (List ℕ)
until p [] = []
until p (r ∷ rs) = r ∷ cond (ltb part_limit (p * length r)) [] (until (p * length r) rs)

-- "the product of the parts", or none where it "exceeds 4,096"; the lists and their lengths stand in the front of lent space
pub record Filled (rs : List (List ℕ)) (r : Option ℕ) (flat_was flat lens_was lens : List ℕ) : Type 0 where
  pub product : r ≡ cond (ltb part_limit (size rs)) None (Some (size rs))
  pub lists : flat ≡ strung (until 1 rs) ++ drop (length (strung (until 1 rs))) flat_was
  pub lengths : lens ≡ map length (until 1 rs) ++ drop (length (until 1 rs)) lens_was
