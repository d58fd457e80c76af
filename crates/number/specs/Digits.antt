-- Runs of digits, as the code goes through them.
use Rattle.std.specs.Prelude.{ℕ, Bool, false, ◌&&◌, List, [], ◌∷◌, take, eqb}
use Rattle.std.proofs.Math.Option.{Option, none, some}
use Rattle.meaning.specs.Text.{run}
use Rattle.meaning.specs.Name.{digit}
use Rattle.meaning.specs.Number.{amount, in_range, digits}
use Rattle.std.specs.Prelude.{Some, None}
use Rattle.std.specs.Prelude.{Option as Maybe}
use Rattle.text.specs.declared.Taken.{Taken}

-- a value and the length of its run, where there is one
abbrev pub as_digits : Option ℕ → ℕ → Maybe (Taken ℕ)
as_digits none n = None
as_digits (some v) n = Some (record { value = v; bytes = n })

-- the longest run of digits
abbrev pub digit_run : List ℕ → List ℕ
digit_run s = take (run digit s) s

-- a zero (48), and another digit behind it
unfoldable pub needless_zero : List ℕ → Bool
needless_zero [] = false
needless_zero (x ∷ []) = false
needless_zero (x ∷ y ∷ s) = eqb x 48 && digit y

-- the value of the longest run of digits, if it lies in the range
unfoldable pub amount_run : List ℕ → Maybe (Taken ℕ)
amount_run s = as_digits (in_range (amount 0 (digit_run s))) (run digit s)

-- the same, where the run has at least one digit and no needless zero
unfoldable pub digits_run : List ℕ → Maybe (Taken ℕ)
digits_run s = as_digits (digits (digit_run s)) (run digit s)
