-- Masks as lists of nodes: their members, what two of them have in common, and a mask with a node taken away.
use Prim.Native.Nat.{ℕ, zero, suc, ◌+◌, ◌^◌, ◌-◌, ◌≤◌, ◌<◌}
use mathlib.Core.Path.{◌≡◌, refl, sym, ◌∙◌, ap}
use mathlib.Core.Bool.{Bool, true, false, not, ◌&&◌, false≢true}
use mathlib.Core.List.{List, [], ◌∷◌}
use native.Mathlib.Omega.{arith}
use native.Mathlib.Numerals.{add-one}
use mir.Syntax.{w64}
use lib.Dec.{eqb, ltb}
use lib.Bits.{bit_and, bit_xor, and_le_l}
use borrow.Author.Tests.{eqb-true, eqb-false, lt-ltb, le-ltb}
use Rattle.std.specs.Int.{trailing_zeros}
use Rattle.meaning.specs.Text.{In, keep, is_in, from}
use Rattle.meaning.specs.Graph.{without}
use Rattle.theory.specs.Lists.Members.{in_keep, keep_in, in_any, is_in_lem, in_is, common, in_from}
use Rattle.graph_order.specs.Masks.{has, members, meet, width}
use Rattle.graph_order.proofs.Bits.{has_none, has_lowest, has_and, has_full, has_xor, has_high}

-- two tests of which each follows from the other
pub same_test : (a b : Bool) → (a ≡ true → b ≡ true) → (b ≡ true → a ≡ true) → a ≡ b
same_test true b f g = sym (f refl)
same_test false true f g = g refl
same_test false false f g = refl

pub and_left : (a b : Bool) → a && b ≡ true → a ≡ true
and_left true b e = refl
and_left false b e = e

pub and_right : (a b : Bool) → a && b ≡ true → b ≡ true
and_right true b e = e
and_right false b e = absurd (false≢true e)

-- KEPT NUMBERS

module _ (p : ℕ → Bool) where
  pub keep_yes : (x : ℕ) (xs : List ℕ) → p x ≡ true → keep p (x ∷ xs) ≡ x ∷ keep p xs
  unfolding keep
  keep_yes x xs e = rw (e, keep)

  pub keep_no : (x : ℕ) (xs : List ℕ) → p x ≡ false → keep p (x ∷ xs) ≡ keep p xs
  unfolding keep
  keep_no x xs e = rw (e, keep)

  -- none of the numbers passes, or exactly those at the front
  pub keep_none : (n i : ℕ) → ((k : ℕ) → i ≤ k → p k ≡ false) → keep p (from i n) ≡ []
  unfolding from keep
  keep_none zero i h = refl
  keep_none (suc n) i h = keep_no i (from (suc i) n) (h i (omega arith)) ∙ keep_none n (suc i) (λ k l. h k (omega arith))

  pub keep_front : (m n i : ℕ) → n ≤ m → ((k : ℕ) → i ≤ k → p k ≡ ltb k (i + n)) → keep p (from i m) ≡ from i n
  unfolding from keep
  keep_front zero zero i l h = refl
  keep_front zero (suc n) i l h = absurd (omega arith)
  keep_front (suc m) zero i l h = keep_none (suc m) i (λ k g. h k g ∙ le-ltb k (i + 0) (omega arith))
  keep_front (suc m) (suc n) i l h =
      let z : i + suc n ≡ suc i + n = omega arith in
      keep_yes i (from (suc i) m) (h i (omega arith) ∙ lt-ltb i (i + suc n) (omega arith))
      ∙ ap (λ xs. i ∷ xs) (keep_front m n (suc i) (omega arith) (λ k g. h k (omega arith) ∙ ap (ltb k) z))

  -- what passes, and then passes a second test
  pub keep_both : (q r : ℕ → Bool) → ((k : ℕ) → r k ≡ p k && q k) → (xs : List ℕ) → keep q (keep p xs) ≡ keep r xs
  unfolding keep
  keep_both q r h [] = refl
  keep_both q r h (x ∷ xs) = go (p x) (q x) refl refl (keep_both q r h xs)
    where
      go : (a b : Bool) → p x ≡ a → q x ≡ b → keep q (keep p xs) ≡ keep r xs → keep q (keep p (x ∷ xs)) ≡ keep r (x ∷ xs)
      go true true d e ih = rw (keep_yes x xs d, h x, d, e, keep, ih)
      go true false d e ih = rw (keep_yes x xs d, h x, d, e, keep, ih)
      go false b d e ih = rw (keep_no x xs d, h x, d, keep, ih)

-- MEMBERS OF A MASK

-- the members from i on
abbrev pub members_from : ℕ → ℕ → List ℕ
members_from i m = keep (has m) (from i (width - i))

pub member_has : (m p : ℕ) → In p (members m) → has m p ≡ true
unfolding members
member_has m p h = (keep_in (has m) p (from 0 width) h).1

pub has_member : (m p : ℕ) → p < width → has m p ≡ true → In p (members m)
unfolding members
has_member m p l t = in_keep (has m) p (from 0 width) (in_from width 0 p (omega arith) (omega arith)) t

pub members_all : (m : ℕ) → members m ≡ members_from 0 m
unfolding members
members_all m = refl

pub members_step : (m i : ℕ) → i < width → from i (width - i) ≡ i ∷ from (i + 1) (width - (i + 1))
unfolding from
members_step m i l =
    let z : width - i ≡ suc (width - (i + 1)) = omega arith in
    ap (from i) z ∙ ap (λ j. i ∷ from j (width - (i + 1))) (sym (add-one i))

-- the node i, where the mask has it, and those behind it
pub members_here : (m i : ℕ) → i < width → has m i ≡ true → members_from i m ≡ i ∷ members_from (i + 1) m
members_here m i h t = ap (keep (has m)) (members_step m i h) ∙ keep_yes (has m) i (from (i + 1) (width - (i + 1))) t

pub members_past : (m i : ℕ) → i < width → has m i ≡ false → members_from i m ≡ members_from (i + 1) m
members_past m i h t = ap (keep (has m)) (members_step m i h) ∙ keep_no (has m) i (from (i + 1) (width - (i + 1))) t

pub members_end : (m n i : ℕ) → m < 2 ^ n → n ≤ i → members_from i m ≡ []
members_end m n i h l = keep_none (has m) (width - i) i (λ k g. has_high m n k h (omega arith))

-- the mask of the nodes below n
pub members_full : (n : ℕ) → n ≤ width → members (2 ^ n - 1) ≡ from 0 n
unfolding members
members_full n l = keep_front (has (2 ^ n - 1)) width n 0 l (λ k g. has_full n k ∙ ap (ltb k) (z n))
  where
    z : (n : ℕ) → n ≡ 0 + n
    z n = omega arith

-- a node taken away
pub members_without : (m k : ℕ) → has m k ≡ true → without k (members m) ≡ members (bit_xor m (2 ^ k))
unfolding members without
members_without m k t = keep_both (has m) (λ i. not (eqb i k)) (has (bit_xor m (2 ^ k))) (λ j. has_xor m k j t) (from 0 width)

-- two masks have a node in common exactly where `&` of them is not 0
pub meet_and : (a b : ℕ) → a < 2 ^ 64 → meet a b ≡ not (eqb (bit_and a b) 0)
unfolding meet
meet_and a b h = go (eqb (bit_and a b) 0) refl (meet a b) refl
  where
    both : (p : ℕ) → has a p ≡ true → has b p ≡ true → has (bit_and a b) p ≡ true
    both p s t = has_and a b p ∙ rw (s, t)

    none : bit_and a b ≡ 0 → meet a b ≡ true → ⊥
    none z t =
        let (p, hb, ia) = common (members a) (members b) t in
        let e : has (bit_and a b) p ≡ true = both p (member_has a p (is_in_lem p (members a) ia)) (member_has b p hb) in
        false≢true (sym (has_none p) ∙ ap (λ m. has m p) (sym z) ∙ e)

    one : (bit_and a b ≡ 0 → ⊥) → meet a b ≡ true
    one ne =
        let l : bit_and a b ≤ a = and_le_l a b in
        let (g, t, below) = has_lowest (bit_and a b) (omega arith) ne in
        let p = trailing_zeros w64 (bit_and a b) in
        let s : has a p && has b p ≡ true = sym (has_and a b p) ∙ t in
        in_any (λ p. is_in p (members b)) p (members a) (has_member a p g (and_left (has a p) (has b p) s))
        (in_is p (members b) (has_member b p g (and_right (has a p) (has b p) s)))

    go : (z : Bool) → eqb (bit_and a b) 0 ≡ z → (m : Bool) → meet a b ≡ m → m ≡ not z
    go true e true t = absurd (none (eqb-true (bit_and a b) 0 e) t)
    go true e false t = refl
    go false e m t = sym t ∙ one (eqb-false (bit_and a b) 0 e)
