-- A part of a slice, by its ends, which lie within the slice.
use Prim.Native.Nat.{ℕ, ◌-◌, ◌≤◌, min}
use mathlib.Core.Path.{◌≡◌, refl, sym, ap, ◌∙◌}
use mathlib.Core.Bool.{Bool, true, false}
use mathlib.Core.List.{List, []}
use native.Mathlib.Omega.{arith}
use borrow.Author.Tests.{leb-true, leb-false}
use lib.Dec.{leb}
use lib.ListN.{length, take, drop, drop_of_length-le, length-drop}
use lib.Seq.{take_all, take-nil}

module _ {A : Type 0} (xs : List A) (i j : ℕ) where
  -- behind the last nothing stands
  past : length xs ≤ i → (n : ℕ) → take n (drop i xs) ≡ []
  past h n = ap (take n) (drop_of_length-le xs {i = i} h) ∙ take-nil n

  -- up to an end e and from a start s within it
  pub between_part : (e s : ℕ) → e ≡ min j (length xs) → s ≡ min i e → take (e - s) (drop s xs) ≡ take (j - i) (drop i xs)
  between_part e s ee ss = go (leb i e) refl (leb j (length xs)) refl
    where
      go : (b : Bool) → leb i e ≡ b → (c : Bool) → leb j (length xs) ≡ c → take (e - s) (drop s xs) ≡ take (j - i) (drop i xs)
      go true b true c =
          let h = leb-true i e b in
          let k = leb-true j (length xs) c in
          let z : s ≡ i = omega arith in
          let y : e ≡ j = omega arith in
          rw (z, y)
      go true b false c =
          let h = leb-true i e b in
          let k = leb-false j (length xs) c in
          let z : s ≡ i = omega arith in
          let y : e ≡ length xs = omega arith in
          rw z (take_all (e - i) (drop i xs) (omega (arith, length-drop i xs)) ∙ sym (take_all (j - i) (drop i xs) (omega (arith, length-drop i xs))))
      go false b true c =
          let h = leb-false i e b in
          let k = leb-true j (length xs) c in
          let z : e - s ≡ 0 = omega arith in
          let y : j - i ≡ 0 = omega arith in
          rw (z, y)
      go false b false c =
          let h = leb-false i e b in
          let k = leb-false j (length xs) c in
          let z : e - s ≡ 0 = omega arith in
          rw z (sym (past (omega arith) (j - i)))
