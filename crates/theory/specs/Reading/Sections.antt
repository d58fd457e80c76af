-- A section of the sheet, whatever its rows are: what is read by what stands there and what its next row gives.
use Prim.Native.Nat.{ℕ, zero, suc, ◌-◌, ◌≤◌}
use Rattle.std.specs.Prelude.{◌≡◌, true, false, List, length, drop}
use native.Mathlib.Omega.{arith}
use Rattle.meaning.specs.Text.{begins}
use Rattle.meaning.specs.Reading.{got, wrong, Reader, after, stands}
use Rattle.meaning.specs.ReadSheet.{section}

module _ {A : Type 0} (key : List ℕ) (row : A → Reader A) (so : A) (l : ℕ) (s : List ℕ) where
  -- no further line
  pub section_over : (room : ℕ) → begins key s ≡ false → section key row room so l s ≡ got so l s
  unfolding section stands
  section_over zero e = rw e
  section_over (suc room) e = rw e

  module _ (here : begins key s ≡ true) where
    -- one line too many
    pub section_full : section key row 0 so l s ≡ wrong 6 l
    unfolding section stands
    section_full = rw here

    -- a further row, and what follows it
    pub section_begun : (room : ℕ) → 1 ≤ room → section key row room so l s ≡ after (row so l (drop (length key) s)) (section key row (room - 1))
    unfolding section stands
    section_begun zero h = absurd (omega arith)
    section_begun (suc room) h =
        let z : suc room - 1 ≡ room = omega arith in
        rw (z, here)

    -- a wrong row
    pub section_wrong : (room : ℕ) → 1 ≤ room → (n m : ℕ) → row so l (drop (length key) s) ≡ wrong n m → section key row room so l s ≡ wrong n m
    unfolding section stands
    section_wrong zero h n m e = absurd (omega arith)
    section_wrong (suc room) h n m e = rw (here, e)

    -- a good row
    pub section_row : (room : ℕ) → 1 ≤ room → (a : A) (m : ℕ) (t : List ℕ) → row so l (drop (length key) s) ≡ got a m t
        → section key row room so l s ≡ section key row (room - 1) a m t
    unfolding section stands
    section_row zero h a m t e = absurd (omega arith)
    section_row (suc room) h a m t e =
        let z : suc room - 1 ≡ room = omega arith in
        rw z (rw (here, e))
