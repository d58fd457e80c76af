-- What callers use: how long the lines are at most.
use Prim.Native.Nat.{ℕ, ◌+◌, ◌%◌, ◌≤◌}
use mathlib.Core.Bool.{Bool, true, false, cond}
use mathlib.Core.List.{[]}
use native.Mathlib.Omega.{arith}
use lib.Dec.{eqb}
use lib.ListN.{length}
use Rattle.meaning.specs.Text.{text}
use Rattle.meaning.specs.Number.{decimal}
use Rattle.meaning.specs.Write.{line}
use Rattle.theory.specs.Papers.Counts.{decimal_few}
use Rattle.theory.specs.Writing.ReadBack.{line_length_lem}
use Rattle.name.specs.declared.Name.{Name as Kept}
use Rattle.name.specs.Names.{name_of, spell_room}
use Rattle.name.proofs.Spelt.{spelt_short}
use Rattle.desk_print.specs.Lines.{start_text, pattern_text}

-- that of a task, whatever its kept name
pub start_few : (w : Kept) (t : ℕ) → length (start_text (name_of w) t) ≤ spell_room + 7
unfolding start_text
start_few w t = go (eqb (t % 2) 1)
  where
    go : (b : Bool) → length (cond b (line (text "start") (name_of w)) []) ≤ spell_room + 7
    go true = omega (arith, line_length_lem (text "start") (name_of w), spelt_short w)
    go false = omega arith

-- that of a pattern
pub pattern_few : (p : ℕ) → length (pattern_text p) ≤ 19
pattern_few p = omega (arith, line_length_lem (text "outlook") (decimal p), decimal_few p)
