-- The rows of a table of rules: as many as rules, at its start.
use Prim.Native.Nat.{ℕ, suc, ◌+◌}
use mathlib.Core.Path.{◌≡◌, refl, ap}
use mathlib.Core.List.{List, [], ◌∷◌}
use lib.ListN.{length, take}
use Rattle.meaning.specs.Limits.{rule_limit}
use Rattle.meaning.specs.Sheet as M
use Rattle.sheet_tables.specs.Rules.{words_of, no_rule, as_rows, as_rules}
use Rattle.theory.specs.Lists.Padded.{padded_take}

pub rows_count : (top : ℕ) (so : List M.Rule) → length (as_rows top so) ≡ length so
unfolding as_rows
rows_count top [] = refl
rows_count top (r ∷ so) = ap suc (rows_count (top + length (words_of r.condition)) so)

-- the rules that were read, without what stands behind them
pub rows_taken : (rs : List M.Rule) → take (as_rules rs).count (as_rules rs).rows ≡ as_rows 0 rs
unfolding as_rules
rows_taken rs = rw (← rows_count 0 rs) (padded_take rule_limit no_rule (as_rows 0 rs))
