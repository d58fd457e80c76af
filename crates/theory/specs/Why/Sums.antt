-- Sums over lists, and over the tests of all statuses: where each status takes those of one change, each test counts at most once.
use Rattle.std.specs.Prelude.{ℕ, zero, suc, ◌+◌, ◌*◌, ◌/◌, ◌≤◌, ◌≡◌, refl, Bool, true, false, cond, eqb, leb, length}
use Rattle.std.proofs.Common.{◌∙◌, ap, inl, inr, suc-mul, eqb-true, leb-true, le-leb}
use mathlib.Core.List.{List, [], ◌∷◌, ◌++◌}
use native.Mathlib.Omega.{arith}
use Rattle.std.proofs.Math.ListN.{length-append}
use Rattle.std.proofs.lemmas.Bool.{lt-leb}
use Rattle.meaning.specs.Text.{In, keep, joined, from}
use Rattle.meaning.specs.Tests.{Test}
use Rattle.meaning.specs.Dependency.{tests_for}
use Rattle.meaning.specs.Why.{change_of}
use Rattle.theory.specs.Why.Stops.{change_near}

-- the sum of a number for each member
unfoldable pub total : {A : Type 0} → (A → ℕ) → List A → ℕ
total w [] = 0
total w (x ∷ xs) = w x + total w xs

-- with 1 for each it is their count
pub total_one : {A : Type 0} (xs : List A) → total (λ x. 1) xs ≡ length xs
unfolding total
total_one [] = refl
total_one (x ∷ xs) = omega (arith, total_one xs)

module _ {A : Type 0} (w : A → ℕ) where
  pub total_both : (xs ys : List A) → total w (xs ++ ys) ≡ total w xs + total w ys
  unfolding total
  total_both [] ys = omega arith
  total_both (x ∷ xs) ys = omega (arith, total_both xs ys)

  -- of a text, line by line
  pub joined_total : {B : Type 0} (f : A → List B) → ((x : A) → length (f x) ≤ w x) → (xs : List A) → length (joined f xs) ≤ total w xs
  unfolding total joined
  joined_total f h [] = omega arith
  joined_total f h (x ∷ xs) = omega (arith, h x, joined_total f h xs, length-append (f x) (joined f xs))

-- lines of at most b bytes each
pub joined_most : {A B : Type 0} (f : A → List B) (b : ℕ) (xs : List A) → ((x : A) → In x xs → length (f x) ≤ b) → length (joined f xs) ≤ length xs * b
unfolding joined
joined_most f b [] h = omega arith
joined_most f b (x ∷ xs) h = omega (arith, h x (inl refl), joined_most f b xs (λ y i. h y (inr i)), suc-mul (length xs) b, length-append (f x) (joined f xs))

-- THE LINES OF A STATUS

-- a number where the status x is i or a later one
abbrev since : ℕ → ℕ → ℕ → ℕ
since i x n = cond (leb i x) n 0

since_own : (i n : ℕ) → (since i i n ≡ n) × (since (suc i) i n ≡ 0)
since_own i n = (rw (le-leb i i (omega arith)), rw (lt-leb (suc i) i (omega arith)))

since_less : (i x n : ℕ) → since (suc i) x n ≤ since i x n
since_less i x n = go (leb (suc i) x) refl
  where
    go : (b : Bool) → leb (suc i) x ≡ b → cond (leb (suc i) x) n 0 ≤ cond (leb i x) n 0
    go true e = let h : suc i ≤ x = leb-true (suc i) x e in rw (e, le-leb i x (omega arith)) (omega arith)
    go false e = rw e (omega arith)

-- a number for each test, where it is of status i or a later one
abbrev since_of : (Test → ℕ) → ℕ → Test → ℕ
since_of v i t = since i (t.node / 2) (v t)

-- the tests of one change of a status and those of later statuses are part of those from that status on
status_part : (v : Test → ℕ) (i k : ℕ) → k / 2 ≡ i → (ts : List Test) → total v (tests_for ts k) + total (since_of v (suc i)) ts ≤ total (since_of v i) ts
unfolding total tests_for keep
status_part v i k e [] = omega arith
status_part v i k e (t ∷ ts) = go (eqb t.node k) refl (status_part v i k e ts)
  where
    go : (b : Bool) → eqb t.node k ≡ b → total v (tests_for ts k) + total (since_of v (suc i)) ts ≤ total (since_of v i) ts
        → total v (elim b [ true ↦ t ∷ tests_for ts k | false ↦ tests_for ts k ]) + (since_of v (suc i) t + total (since_of v (suc i)) ts) ≤ since_of v i t
        + total
        (since_of v i) ts
    go true q h =
        let z : t.node / 2 ≡ i = ap (λ n. n / 2) (eqb-true t.node k q) ∙ e in
        rw (z, (since_own i (v t)).0, (since_own i (v t)).1) (omega arith)
    go false q h = omega (arith, since_less i (t.node / 2) (v t))

-- so where each status from i on takes the tests of one change, each test counts at most once
statuses_part : (v : Test → ℕ) (ts : List Test) (change : ℕ → ℕ) → ((x : ℕ) → change x / 2 ≡ x) → (n i : ℕ)
    → total (λ x. total v (tests_for ts (change x))) (from i n) ≤ total (since_of v i) ts
unfolding total from
statuses_part v ts change own zero i = omega arith
statuses_part v ts change own (suc n) i = omega (arith, status_part v i (change i) (own i) ts, statuses_part v ts change own n (suc i))

since_all : (v : Test → ℕ) (ts : List Test) → total (since_of v 0) ts ≡ total v ts
unfolding total
since_all v [] = refl
since_all v (t ∷ ts) = rw (le-leb 0 (t.node / 2) (omega arith)) (ap (λ n. v t + n) (since_all v ts))

-- of all statuses
pub counted_once : (v : Test → ℕ) (ts : List Test) (before : List Bool) (n : ℕ)
    → total (λ x. total v (tests_for ts (change_of before x))) (from 0 n) ≤ total v ts
counted_once v ts before n = omega (arith, statuses_part v ts (change_of before) (λ x. let (l, g) = change_near before x in omega arith) n 0, since_all v ts)
