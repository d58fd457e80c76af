-- Kept names spelt, symbol by symbol, in the form in which the functions' answers need it.
use Prim.Native.Nat.{ℕ, zero, suc, ◌+◌, ◌-◌, ◌/◌, ◌%◌, ◌<◌, ◌≤◌}
use mathlib.Core.Path.{◌≡◌, refl, ap}
use mathlib.Core.Bool.{true, false}
use mathlib.Core.List.{List, [], ◌∷◌, ◌++◌}
use native.Mathlib.Omega.{arith}
use borrow.Author.Tests.{eq-eqb, ne_eqb, le-leb, lt-leb}
use lib.Dec.{eqb}
use lib.ListN.{length, set}
use Rattle.theory.specs.Writing.Lent.{Wrote, Left, left_start, left_end, left_room, left_more, left_long, byte_put}
use Rattle.name.specs.declared.Name.{Name as Kept}
use Rattle.name.specs.Packed.{base, byte_of, named_in, named}
use Rattle.name.specs.Names.{name_of, spell_room}

-- SYMBOLS

pub symbol_none : (d : ℕ) → d ≡ 0 → 0 ≡ byte_of d
unfolding byte_of
symbol_none d e = rw e

pub symbol_letter : (d r : ℕ) → (d ≡ 0 → ⊥) → d ≤ 26 → r ≡ d + 96 → r ≡ byte_of d
unfolding byte_of
symbol_letter d r h g e = rw (e, le-leb 1 d (omega arith), le-leb d 26 g)

pub symbol_digit : (d r : ℕ) → 26 < d → d ≤ 36 → r ≡ d + 21 → r ≡ byte_of d
unfolding byte_of
symbol_digit d r h g e = rw (e, le-leb 1 d (omega arith), lt-leb d 26 h, le-leb 27 d (omega arith), le-leb d 36 g)

pub symbol_other : (d : ℕ) → 36 < d → 0 ≡ byte_of d
unfolding byte_of
symbol_other d h = rw (le-leb 1 d (omega arith), lt-leb d 26 (omega arith), le-leb 27 d (omega arith), lt-leb d 36 h)

pub ruleset symbols = (symbol_none, symbol_letter, symbol_digit, symbol_other)

named_none : (k v : ℕ) → v ≡ 0 → named_in k v ≡ []
unfolding named_in
named_none zero v e = refl
named_none (suc k) v e = rw (eq-eqb v 0 e, named_in)

named_over : (k v : ℕ) → k ≤ 0 → named_in k v ≡ []
unfolding named_in
named_over zero v h = refl
named_over (suc k) v h = absurd (omega arith)

named_step : (k v : ℕ) → 0 < k → (v ≡ 0 → ⊥) → named_in k v ≡ (byte_of (v % base) ∷ []) ++ named_in (k - 1) (v / base)
unfolding named_in
named_step zero v g h = absurd (omega arith)
named_step (suc k) v g h = let z : suc k - 1 ≡ k = omega arith in rw (ne_eqb v 0 h, named_in, z)

-- HOW LONG THE NAME OF A NUMBER IS: n symbols are passed, v is left
pub len_start : (w : ℕ) → length (named w) ≡ 0 + length (named_in (spell_room - 0) w)
unfolding named
len_start w = omega arith

module _ (w : Kept) (n v : ℕ) (so : length (named w.word) ≡ n + length (named_in (spell_room - n) v)) where
  pub len_end : v ≡ 0 → n ≡ length (name_of w)
  unfolding name_of
  len_end e = omega (arith, ap length (named_none (spell_room - n) v e))

  pub len_full : spell_room ≤ n → n ≡ length (name_of w)
  unfolding name_of
  len_full h = omega (arith, ap length (named_over (spell_room - n) v (omega arith)))

module _ (w n v : ℕ) (so : length (named w) ≡ n + length (named_in (spell_room - n) v)) where
  pub len_more : n < spell_room → (v ≡ 0 → ⊥) → (u m : ℕ) → u ≡ v / base → m ≡ n + 1 → length (named w) ≡ m + length (named_in (spell_room - m) u)
  len_more h g u m e z =
      let k : spell_room - n - 1 ≡ spell_room - m = omega arith in
      rw (e, ← k) (omega (arith, ap length (named_step (spell_room - n) v (omega arith) g)))

pub ruleset measuring = (len_start, len_end, len_full, len_more)

-- no kept name has more bytes than there is room for
pub spelt_short : (w : Kept) → length (name_of w) ≤ spell_room
unfolding name_of named named_in
spelt_short w = few spell_room w.word
  where
    few : (k v : ℕ) → length (named_in k v) ≤ k
    few zero v = omega arith
    few (suc k) v =
        elim (eqb v 0) as (λ b. length {A = ℕ} (elim b [
          | true ↦ []
          | false ↦ byte_of (v % base) ∷ named_in k
              (v / base)
        ]) ≤ suc k) [ true ↦ omega arith | false ↦ omega (arith, few k (v / base)) ]

-- ITS BYTES: n symbols are written, and those of v are left
pub spell_start : (w : Kept) (at : ℕ) (o : List ℕ) → at + length (name_of w) ≤ length o
    → Left at (named w.word) o at (named_in (spell_room - 0) w.word) o
unfolding name_of named
spell_start w at o h = left_start at (name_of w) o h

module _ (at₀ : ℕ) (w : Kept) (o₀ : List ℕ) (at n v : ℕ) (o : List ℕ) (l : Left at₀ (named w.word) o₀ at (named_in (spell_room - n) v) o) where
  pub spell_end : v ≡ 0 → Wrote at₀ (name_of w) o₀ o at
  unfolding name_of
  spell_end e = left_end at₀ (named w.word) o₀ at (named_in (spell_room - n) v) o l (named_none (spell_room - n) v e)

  pub spell_full : spell_room ≤ n → Wrote at₀ (name_of w) o₀ o at
  unfolding name_of
  spell_full h = left_end at₀ (named w.word) o₀ at (named_in (spell_room - n) v) o l (named_over (spell_room - n) v (omega arith))

module _ (at₀ : ℕ) (w o₀ : List ℕ) (at n v : ℕ) (o : List ℕ) (l : Left at₀ w o₀ at (named_in (spell_room - n) v) o) (h : n < spell_room) (g : v ≡ 0 → ⊥) where
  abbrev byte : List ℕ
  byte = byte_of (v % base) ∷ []

  abbrev more : List ℕ
  more = named_in (spell_room - n - 1) (v / base)

  first : named_in (spell_room - n) v ≡ byte ++ more
  first = named_step (spell_room - n) v (omega arith) g

  pub spell_room_lem : at < length o
  spell_room_lem = omega (arith, left_room at₀ w o₀ at (named_in (spell_room - n) v) o l byte more first)

  pub spell_more : (d b u m : ℕ) → d ≡ byte_of (v % base) → b ≡ at + 1 → u ≡ v / base → m ≡ n + 1 → Left at₀ w o₀ b (named_in (spell_room - m) u) (set o at d)
  spell_more d b u m x c y z =
      let k : spell_room - n - 1 ≡ spell_room - m = omega arith in
      let put = byte_put at (byte_of (v % base)) o (omega (arith, spell_room_lem)) b c in
      rw (x, y, ← k) (left_more at₀ w o₀ at (named_in (spell_room - n) v) o l byte more first (set o at (byte_of (v % base))) b put)

pub ruleset spelling = (spell_start, spell_end, spell_full, spell_room_lem, spell_more, left_long)
