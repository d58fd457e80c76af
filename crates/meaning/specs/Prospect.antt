-- What may still come, status by status: what the patterns of an outlook have in common.
use Rattle.std.specs.Prelude.{ℕ, ◌/◌, ◌%◌, ◌^◌, ◌≡◌, Bool, true, false, not, cond, List, [], ◌∷◌, eqb}
use Rattle.meaning.specs.Text.{any}
use Rattle.meaning.specs.Name.{Name}
use Rattle.meaning.specs.Tests.{Test}
use Rattle.meaning.specs.Step.{Moment}
use Rattle.meaning.specs.Outlook.{Gives}

-- "`NAME=always`, `NAME=never` or `NAME=open`"
pub data Prospect : Type 0 where
  always never still_open : Prospect

-- the status at place x is yes in a pattern: "bit i .. is status i"
unfoldable pub yes_in : ℕ → ℕ → Bool
yes_in x p = eqb (p / 2 ^ x % 2) 1

-- WHAT IS MEANT: "yes in every pattern, in none, in some", of all that some filling gives
abbrev pub Means : List Test → Moment → ℕ → Prospect → Type 0
Means ts m x always = (p : ℕ) → Gives ts m p → yes_in x p ≡ true
Means ts m x never = (p : ℕ) → Gives ts m p → yes_in x p ≡ false
Means ts m x still_open = ((p : ℕ) × Gives ts m p × (yes_in x p ≡ true)) × ((p : ℕ) × Gives ts m p × (yes_in x p ≡ false))

-- HOW IT IS COMPUTED, from a list of patterns: "yes in every pattern, in none, in some"
unfoldable pub prospect : List ℕ → ℕ → Prospect
prospect ps x = cond (any (λ p. not (yes_in x p)) ps) (cond (any (yes_in x) ps) still_open never) always

-- "the names of its statuses that are yes"; the names are those from the lowest bit on
unfoldable pub yes_names : List Name → ℕ → List Name
yes_names [] p = []
yes_names (n ∷ ns) p = cond (eqb (p % 2) 1) (n ∷ yes_names ns (p / 2)) (yes_names ns (p / 2))
