-- What callers use: the numbers below the product give all choices, in the meaning's order.
use Prim.Native.Nat.{ℕ, zero, suc, ◌+◌, ◌*◌, ◌/◌, ◌%◌, ◌<◌}
use mathlib.Core.Path.{◌≡◌, refl, sym, ◌∙◌, ap, ap₂}
use mathlib.Core.List.{List, [], ◌∷◌, ◌++◌, map, map-append, map-map, append_assoc}
use native.Mathlib.Nat.{add-zero, zero-mul, mul-zero, suc-mul, mul-suc, mul-add-div, mul-add-mod_self_left, div-eq_of_lt, mod-eq_of_lt}
use native.Mathlib.Omega.{arith}
use lib.ListN.{length, get_or, replicate, length-append}
use lib.Seq.{take-append_seam, drop-append_seam}
use Rattle.meaning.specs.Text.{joined, from}
use Rattle.meaning.specs.Number.{Value}
use Rattle.meaning.specs.Outlook.{choices}
use Rattle.theory.specs.Lists.Members.{from_in, from_both, joined_one, map_same, joined_same, joined_map, map_joined}
use Rattle.outlook_combos.specs.Numbered.{split, sum, product, size, strung, choice}

-- numbers one after another, further on
from_later : (a b n : ℕ) → from (a + b) n ≡ map (λ k. a + k) (from b n)
unfolding from
from_later a b zero = refl
from_later a b (suc n) =
    let z : suc (a + b) ≡ a + suc b = omega arith in
    ap (λ l. (a + b) ∷ l) (ap (λ k. from k n) z ∙ from_later a (suc b) n)

-- THE CHOICES

-- the meaning's choices, of numbers
abbrev picks : List (List ℕ) → List (List ℕ)
picks [] = [] ∷ []
picks (r ∷ rs) = joined (λ v. map (λ w. v ∷ w) (picks rs)) r

-- the numbers with one first digit, and so with all
module _ (all : List ℕ) (rs : List (List ℕ)) (ih : map (choice rs) (from 0 (size rs)) ≡ picks rs) where
  digits : (k j v : ℕ) → j < size rs → get_or all k 0 ≡ v → choice (all ∷ rs) (size rs * k + j) ≡ v ∷ choice rs j
  unfolding choice
  digits k j v h e =
      let c : ℕ = size rs in
      let d : (c * k + j) / c ≡ k = mul-add-div {m = c} (omega arith) k j ∙ ap (λ n. k + n) (div-eq_of_lt h) ∙ add-zero k in
      let m : (c * k + j) % c ≡ j = mul-add-mod_self_left c k j ∙ mod-eq_of_lt h in
      rw (d, m, e)

  block : (k v : ℕ) → get_or all k 0 ≡ v → map (choice (all ∷ rs)) (from (size rs * k) (size rs)) ≡ map (λ w. v ∷ w) (picks rs)
  block k v e =
      let c : ℕ = size rs in
      let z : c * k ≡ c * k + 0 = omega arith in
      ap (λ n. map (choice (all ∷ rs)) (from n c)) z
      ∙ ap (map (choice (all ∷ rs))) (from_later (c * k) 0 c)
      ∙ map-map (choice (all ∷ rs)) (λ j. c * k + j) (from 0 c)
      ∙ map_same (λ j. choice (all ∷ rs) (c * k + j)) (λ j. v ∷ choice rs j) (from 0 c) (λ j i. digits k j v (omega (arith, (from_in c 0 j i).1)) e)
      ∙ sym (map-map (λ w. v ∷ w) (choice rs) (from 0 c))
      ∙ ap (map (λ w. v ∷ w)) ih

  blocks : (r : List ℕ) (k : ℕ) → ((i : ℕ) → i < length r → get_or all (k + i) 0 ≡ get_or r i 0)
      → map (choice (all ∷ rs)) (from (size rs * k) (length r * size rs)) ≡ joined (λ v. map (λ w. v ∷ w) (picks rs)) r
  unfolding joined from
  blocks [] k h = rw (zero-mul (size rs))
  blocks (v ∷ r) k h =
      let c : ℕ = size rs in
      let n : length (v ∷ r) * c ≡ c + length r * c = omega (arith, suc-mul (length r) c) in
      let next : c * k + c ≡ c * suc k = omega (arith, mul-suc c k) in
      ap (λ n. map (choice (all ∷ rs)) (from (c * k) n)) n
      ∙ ap (map (choice (all ∷ rs))) (from_both (c * k) c (length r * c))
      ∙ map-append (choice (all ∷ rs)) (from (c * k) c) (from (c * k + c) (length r * c))
      ∙ ap₂ (λ a b. a ++ b) (block k v (ap (λ i. get_or all i 0) (sym (add-zero k)) ∙ h 0 (omega arith)))
      (ap (λ a. map (choice (all ∷ rs)) (from a (length r * c))) next
      ∙ blocks r (suc k) (λ i l. let z : suc k + i ≡ k + suc i = omega arith in ap (λ j. get_or all j 0) z ∙ h (suc i) (omega arith)))

numbered : (rs : List (List ℕ)) → map (choice rs) (from 0 (size rs)) ≡ picks rs
unfolding from product choice
numbered [] = refl
numbered (r ∷ rs) =
    let z : 0 ≡ size rs * 0 = sym (mul-zero (size rs)) in
    ap (λ a. map (choice (r ∷ rs)) (from a (length r * size rs))) z
    ∙ blocks r rs (numbered rs) r 0 (λ i l. let y : 0 + i ≡ i = omega arith in ap (λ j. get_or r j 0) y)

-- as codes of values
picks_coded : (code : Value → ℕ) (ts : List (List Value)) → picks (map (map code) ts) ≡ map (map code) (choices ts)
unfolding choices
picks_coded code [] = refl
picks_coded code (t ∷ ts) =
    joined_map (λ v. map (λ w. v ∷ w) (picks (map (map code) ts))) code t
    ∙ joined_same (λ x. map (λ w. code x ∷ w) (picks (map (map code) ts))) (λ x. map (map code) (map (λ w. x ∷ w) (choices ts))) t
    (λ x i. ap (map (λ w. code x ∷ w)) (picks_coded code ts) ∙ map-map (λ w. code x ∷ w) (map code) (choices ts)
    ∙ sym (map-map (map code) (λ w. x ∷ w) (choices ts)))
    ∙ sym (map_joined (map code) (λ v. map (λ w. v ∷ w) (choices ts)) t)

-- with lists of one number behind
module _ (n d : ℕ) where
  picks_single : (n : ℕ) → picks (replicate n (d ∷ [])) ≡ replicate n d ∷ []
  picks_single zero = refl
  picks_single (suc n) = joined_one (λ v. map (λ w. v ∷ w) (picks (replicate n (d ∷ [])))) d ∙ ap (map (λ w. d ∷ w)) (picks_single n)

  picks_filled : (rs : List (List ℕ)) → picks (rs ++ replicate n (d ∷ [])) ≡ map (λ w. w ++ replicate n d) (picks rs)
  picks_filled [] = picks_single n
  picks_filled (r ∷ rs) =
      joined_same (λ v. map (λ w. v ∷ w) (picks (rs ++ replicate n (d ∷ [])))) (λ v. map (λ w. w ++ replicate n d) (map (λ w. v ∷ w) (picks rs))) r
      (λ v i. ap (map (λ w. v ∷ w)) (picks_filled rs) ∙ map-map (λ w. v ∷ w) (λ w. w ++ replicate n d) (picks rs)
      ∙ sym (map-map (λ w. w ++ replicate n d) (λ w. v ∷ w) (picks rs)))
      ∙ sym (map_joined (λ w. w ++ replicate n d) (λ v. map (λ w. v ∷ w) (picks rs)) r)

  -- the numbers below the product give the meaning's choices, one after another
  pub choices_numbered : (code : Value → ℕ) (ts : List (List Value)) (rs : List (List ℕ)) → rs ≡ map (map code) ts ++ replicate n (d ∷ [])
      → map (choice rs) (from 0 (size rs)) ≡ map (λ vs. map code vs ++ replicate n d) (choices ts)
  choices_numbered code ts rs e =
      numbered rs ∙ ap picks e ∙ picks_filled (map (map code) ts) ∙ ap (map (λ w. w ++ replicate n d)) (picks_coded code ts)
      ∙ map-map (λ w. w ++ replicate n d) (map code) (choices ts)

-- FLAT LISTS

-- what was put together is taken apart again
pub split_strung : (rs : List (List ℕ)) (rest : List ℕ) → split (map length rs) (strung rs ++ rest) ≡ rs
unfolding split joined
split_strung [] rest = refl
split_strung (r ∷ rs) rest =
    rw (append_assoc r (strung rs) rest, take-append_seam r (strung rs ++ rest), drop-append_seam r (strung rs ++ rest))
    (ap (λ l. r ∷ l) (split_strung rs rest))

pub strung_length : (rs : List (List ℕ)) → sum (map length rs) ≡ length (strung rs)
unfolding sum joined
strung_length [] = refl
strung_length (r ∷ rs) = ap (λ n. length r + n) (strung_length rs) ∙ sym (length-append r (strung rs))
