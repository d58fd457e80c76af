-- The nodes of masks: of 0, of the mask of the nodes below n, of `&` of two masks, and of a mask with a node more or less.
use Prim.Native.Nat.{ℕ, zero, suc, ◌+◌, ◌*◌, ◌%◌, ◌^◌, ◌-◌, ◌≤◌, ◌<◌, min, max}
use mathlib.Core.Path.{◌≡◌, sym, ◌∙◌, ap, ap₂, refl}
use mathlib.Core.Bool.{true, false, not, ◌&&◌, ◌||◌, false≢true, and-true, and-false}
use mathlib.Core.Logic.{◌≢◌}
use native.Mathlib.Omega.{arith}
use native.Mathlib.Nat.{one-mul, mod-eq_of_lt}
use native.Mathlib.Decide.{ℕ_discrete, dec_lt}
use mir.Syntax.{w64}
use lib.Dec.{eqb, ltb}
use lib.Pow.{pow-lt}
use lib.Bits.{bit_and, bit_or, bit_xor}
use borrow.Author.Tests.{eq-eqb, ne_eqb, eqb-true, le-ltb, lt-ltb}
use Rattle.std.specs.Int.{bit_at, trailing_zeros}
use Rattle.std.proofs.lemmas.Nat.Bits.{bit_at-zero, bit_at-lt, bit_at_and, bit_at_or, bit_at_xor, bit_at-pow_same, bit_at-pow_other, bit_at_ones}
use Rattle.std.proofs.lemmas.Nat.Bits.{bit_at_ones_above, bit_at_above, bit_at-trailing_zeros}
use Rattle.graph_order.specs.Masks.{has, width}

-- as the code writes a power of two
pub shifted : (v : ℕ) → v < width → 1 * 2 ^ v % 2 ^ 64 ≡ 2 ^ v
shifted v h = ap (λ x. x % 2 ^ 64) (one-mul (2 ^ v)) ∙ mod-eq_of_lt (pow-lt h)

-- 0 has no node; the mask of the nodes below n has those, and a power of two has one
pub has_none : (k : ℕ) → has 0 k ≡ false
unfolding has
has_none k = ap (λ b. eqb b 1) (bit_at-zero k)

pub has_full : (n k : ℕ) → has (2 ^ n - 1) k ≡ ltb k n
unfolding has
has_full n k = go (dec_lt k n)
  where
    go : Dec (k < n) → eqb (bit_at (2 ^ n - 1) k) 1 ≡ ltb k n
    go (yes l) = ap (λ b. eqb b 1) (bit_at_ones n k l) ∙ sym (lt-ltb k n l)
    go (no ne) = ap (λ b. eqb b 1) (bit_at_ones_above n k (omega arith)) ∙ sym (le-ltb k n (omega arith))

has_pow : (v k : ℕ) → has (2 ^ v) k ≡ eqb k v
unfolding has
has_pow v k = go (ℕ_discrete k v)
  where
    go : Dec (k ≡ v) → eqb (bit_at (2 ^ v) k) 1 ≡ eqb k v
    go (yes e) = ap (λ i. eqb (bit_at (2 ^ v) i) 1) e ∙ ap (λ b. eqb b 1) (bit_at-pow_same v) ∙ sym (eq-eqb k v e)
    go (no ne) = ap (λ b. eqb b 1) (bit_at-pow_other v k ne) ∙ sym (ne_eqb k v ne)

-- a mask that is not 0 has a node, and the lowest is told by the zeros behind it
pub has_lowest : (x : ℕ) → x < 2 ^ 64 → x ≢ 0
    → (trailing_zeros w64 x < width) × (has x (trailing_zeros w64 x) ≡ true) × ((k : ℕ) → k < trailing_zeros w64 x → has x k ≡ false)
unfolding has
has_lowest x h ne =
    let low = bit_at-trailing_zeros w64 x (omega arith) h in
    (low.0, eq-eqb (bit_at x (trailing_zeros w64 x)) 1 low.1, λ k l. ap (λ b. eqb b 1) (low.2 k l))

-- the nodes that two masks have in common
pub has_and : (a b k : ℕ) → has (bit_and a b) k ≡ has a k && has b k
unfolding has
has_and a b k = ap (λ x. eqb x 1) (bit_at_and a b k) ∙ go (bit_at a k) (bit_at b k) (bit_at-lt a k) (bit_at-lt b k)
  where
    go : (x y : ℕ) → x < 2 → y < 2 → eqb (min x y) 1 ≡ eqb x 1 && eqb y 1
    go zero zero h g = refl
    go zero (suc zero) h g = refl
    go (suc zero) zero h g = refl
    go (suc zero) (suc zero) h g = refl
    go zero (suc (suc y)) h g = absurd (omega arith)
    go (suc zero) (suc (suc y)) h g = absurd (omega arith)
    go (suc (suc x)) y h g = absurd (omega arith)

-- and those of either
pub has_either : (a b k : ℕ) → has (bit_or a b) k ≡ has a k || has b k
unfolding has
has_either a b k = ap (λ x. eqb x 1) (bit_at_or a b k) ∙ go (bit_at a k) (bit_at b k) (bit_at-lt a k) (bit_at-lt b k)
  where
    go : (x y : ℕ) → x < 2 → y < 2 → eqb (max x y) 1 ≡ eqb x 1 || eqb y 1
    go zero zero h g = refl
    go zero (suc zero) h g = refl
    go (suc zero) zero h g = refl
    go (suc zero) (suc zero) h g = refl
    go zero (suc (suc y)) h g = absurd (omega arith)
    go (suc zero) (suc (suc y)) h g = absurd (omega arith)
    go (suc (suc x)) y h g = absurd (omega arith)

-- the mask with one more node
pub has_or : (m k j : ℕ) → has (bit_or m (2 ^ k)) j ≡ has m j || eqb j k
has_or m k j = has_either m (2 ^ k) j ∙ ap (λ b. has m j || b) (has_pow k j)

-- the mask without a node that it has
pub has_xor : (m k j : ℕ) → has m k ≡ true → has (bit_xor m (2 ^ k)) j ≡ has m j && not (eqb j k)
unfolding has
has_xor m k j h = ap (λ b. eqb b 1) (bit_at_xor m (2 ^ k) j) ∙ go (ℕ_discrete j k)
  where
    go : Dec (j ≡ k) → eqb ((bit_at m j + bit_at (2 ^ k) j) % 2) 1 ≡ eqb (bit_at m j) 1 && not (eqb j k)
    go (yes e) =
        let one : bit_at m j ≡ 1 = ap (bit_at m) e ∙ eqb-true (bit_at m k) 1 h in
        let two : bit_at (2 ^ k) j ≡ 1 = ap (bit_at (2 ^ k)) e ∙ bit_at-pow_same k in
        let none : (bit_at m j + bit_at (2 ^ k) j) % 2 ≡ 0 = ap₂ (λ a b. (a + b) % 2) one two in
        ap (λ b. eqb b 1) none ∙ sym (ap (λ b. eqb (bit_at m j) 1 && not b) (eq-eqb j k e) ∙ and-false (eqb (bit_at m j) 1))
    go (no ne) =
        let other : bit_at (2 ^ k) j ≡ 0 = bit_at-pow_other k j ne in
        let small : bit_at m j < 2 = bit_at-lt m j in
        let same : (bit_at m j + bit_at (2 ^ k) j) % 2 ≡ bit_at m j = omega arith in
        ap (λ b. eqb b 1) same ∙ sym (ap (λ b. eqb (bit_at m j) 1 && not b) (ne_eqb j k ne) ∙ and-true (eqb (bit_at m j) 1))

-- a number below 2 to the n has no node from n on
pub has_high : (m n k : ℕ) → m < 2 ^ n → n ≤ k → has m k ≡ false
unfolding has
has_high m n k h l = ap (λ b. eqb b 1) (bit_at_above m n k h l)

pub has_below : (m n k : ℕ) → m < 2 ^ n → has m k ≡ true → k < n
has_below m n k h t = go (dec_lt k n)
  where
    go : Dec (k < n) → k < n
    go (yes l) = l
    go (no ne) = absurd (false≢true (sym (has_high m n k h (omega arith)) ∙ t))
