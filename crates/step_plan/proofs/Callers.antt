-- What callers use: the tests of each node of a list without repeats stand in the plan between the end before and its own.
use Prim.Native.Nat.{ℕ, zero, suc, ◌+◌, ◌-◌, ◌≤◌, ◌<◌, min}
use mathlib.Core.Path.{◌≡◌, refl, sym, ap, subst, ◌∙◌}
use mathlib.Core.Bool.{Bool, true, false}
use mathlib.Core.List.{List, [], ◌∷◌, ◌++◌, append_assoc}
use mathlib.Core.Logic.{inl, inr}
use native.Mathlib.Omega.{arith}
use lib.Dec.{eqb}
use lib.ListN.{length, length-append, get_or-append, get_or, take, drop, replicate}
use lib.Seq.{take_at, drop_at, take-append-add}
use borrow.Author.Tests.{eqb-true}
use Rattle.meaning.specs.Text.{In, keep, joined}
use Rattle.theory.specs.Lists.Members.{Once}
use Rattle.theory.specs.Lists.Padded.{padded}
use Rattle.limits.specs.Sizes.{node_room, test_room}
use Rattle.graph_tests.specs.declared.Test.{Test}
use Rattle.graph_tests.specs.Table.{no_test, rows_for}
use Rattle.step_plan.specs.Plan.{listed_by, ends_from, as_plan}
use Rattle.step_plan.proofs.Laws.{rows_hit, rows_miss, ends_length}

-- NO TEST TWICE

-- how often a list names a node
abbrev named : Bool → ℕ → ℕ
named true n = suc n
named false n = n

abbrev hits : ℕ → List ℕ → ℕ
hits n [] = 0
hits n (k ∷ o) = named (eqb n k) (hits n o)

hits_none : (n : ℕ) (o : List ℕ) → (In n o → ⊥) → hits n o ≡ 0
hits_none n [] h = refl
hits_none n (k ∷ o) h = go (eqb n k) refl (hits_none n o (λ i. h (inr i)))
  where
    go : (b : Bool) → eqb n k ≡ b → hits n o ≡ 0 → named b (hits n o) ≡ 0
    go true e ih = absurd (h (inl (eqb-true n k e)))
    go false e ih = ih

hits_once : (n : ℕ) (o : List ℕ) → Once o → hits n o ≤ 1
hits_once n [] d = omega arith
hits_once n (k ∷ o) d = go (eqb n k) refl (hits_once n o d.1)
  where
    go : (b : Bool) → eqb n k ≡ b → hits n o ≤ 1 → named b (hits n o) ≤ 1
    go true e h = let z : hits n o ≡ 0 = hits_none n o (λ i. d.0 (subst (λ x. In x o) (eqb-true n k e) i)) in omega arith
    go false e h = h

-- one test more is listed as often as its node is named
listed_cons : (t : Test) (ts : List Test) (o : List ℕ) → length (listed_by (t ∷ ts) o) ≡ hits t.node o + length (listed_by ts o)
unfolding listed_by joined
listed_cons t ts [] = refl
listed_cons t ts (k ∷ o) = go (eqb t.node k) refl (listed_cons t ts o)
  where
    go : (b : Bool) → eqb t.node k ≡ b → length (joined (rows_for (t ∷ ts)) o) ≡ hits t.node o + length (joined (rows_for ts) o)
        → length (rows_for (t ∷ ts) k ++ joined (rows_for (t ∷ ts)) o) ≡ named b (hits t.node o) + length (rows_for ts k ++ joined (rows_for ts) o)
    go true e ih = rw (length-append, length-append, ap length (rows_hit t ts k e)) (omega arith)
    go false e ih = rw (length-append, length-append, ap length (rows_miss t ts k e)) (omega arith)

none_listed_lem : (o : List ℕ) → length (listed_by [] o) ≡ 0
unfolding listed_by joined rows_for keep
none_listed_lem [] = refl
none_listed_lem (k ∷ o) = none_listed_lem o

pub listed_few : (rows : List Test) (o : List ℕ) → Once o → length (listed_by rows o) ≤ length rows
listed_few [] o d = omega (arith, none_listed_lem o)
listed_few (t ∷ ts) o d = let z : length (listed_by (t ∷ ts) o) ≡ hits t.node o + length (listed_by ts o) = listed_cons t ts o in
    omega (arith, hits_once t.node o d, listed_few ts o d)

-- WHERE THE TESTS OF A NODE STAND

-- the tests up to the next node
pub listed_suc : (rows : List Test) (o : List ℕ) (i : ℕ) → i < length o
    → length (listed_by rows (take (suc i) o)) ≡ length (listed_by rows (take i o)) + length (rows_for rows (get_or o i 0))
unfolding listed_by joined
listed_suc rows [] i h = absurd (omega arith)
listed_suc rows (k ∷ o) zero h = rw length-append (omega arith)
listed_suc rows (k ∷ o) (suc i) h = rw (length-append, length-append) (omega (arith, listed_suc rows o i (omega arith)))

-- an end counts the tests up to it
ends_at : (n : ℕ) (rows : List Test) (o : List ℕ) (i : ℕ) → i < length o
    → get_or (ends_from n rows o) i 0 ≡ min test_room (n + length (listed_by rows (take (suc i) o)))
unfolding ends_from listed_by joined
ends_at n rows [] i h = absurd (omega arith)
ends_at n rows (k ∷ o) zero h = rw length-append (omega arith)
ends_at n rows (k ∷ o) (suc i) h = rw length-append (omega (arith, ends_at (min test_room (n + length (rows_for rows k))) rows o i (omega arith)))

-- the tests of a node between those before and those behind
listed_split : (rows : List Test) (o : List ℕ) (i : ℕ) → i < length o
    → listed_by rows o ≡ listed_by rows (take i o) ++ (rows_for rows (get_or o i 0) ++ listed_by rows (drop (suc i) o))
unfolding listed_by joined
listed_split rows [] i h = absurd (omega arith)
listed_split rows (k ∷ o) zero h = refl
listed_split rows (k ∷ o) (suc i) h =
    ap (λ r. rows_for rows k ++ r) (listed_split rows o i (omega arith))
    ∙ sym (append_assoc (rows_for rows k) (listed_by rows (take i o)) (rows_for rows (get_or o i 0) ++ listed_by rows (drop (suc i) o)))

-- a middle taken out
middle : {A : Type 0} (xs ys zs ts : List A) → take (length ys) (drop (length xs) ((xs ++ (ys ++ zs)) ++ ts)) ≡ ys
middle xs ys zs ts =
    ap (λ r. take (length ys) (drop (length xs) r)) (append_assoc xs (ys ++ zs) ts)
    ∙ ap (take (length ys)) (drop_at xs ((ys ++ zs) ++ ts) (length xs) refl)
    ∙ ap (take (length ys)) (append_assoc ys zs ts)
    ∙ take_at ys (zs ++ ts) (length ys) refl

module _ (rows : List Test) (order : List ℕ) (nodes : ℕ) (o : List ℕ) (is : take nodes order ≡ o) (few : length (listed_by rows o) ≤ test_room) (i : ℕ)
    (h : i < length o) where
  pub plan_end : get_or (as_plan rows order nodes).ends i 0 ≡ length (listed_by rows (take (suc i) o))
  unfolding as_plan padded
  plan_end =
      let total : length (listed_by rows o) ≡ length (listed_by rows (take i o)) + (length (rows_for rows (get_or o i 0)) + length
      (listed_by rows (drop (suc i) o))) =
      ap length (listed_split rows o i h) ∙ rw (length-append, length-append) refl in
      ap (λ p. get_or (padded node_room 0 (ends_from 0 rows p)) i 0) is
      ∙ get_or-append (ends_from 0 rows o) (replicate (node_room - length (ends_from 0 rows o)) 0) 0 i (omega (arith, ends_length 0 rows o))
      ∙ ends_at 0 rows o i h
      ∙ omega (arith, listed_suc rows o i h)

  pub plan_rows : take (length (rows_for rows (get_or o i 0))) (drop (length (listed_by rows (take i o))) (as_plan rows order nodes).rows)
      ≡ rows_for rows (get_or o i 0)
  unfolding as_plan
  plan_rows =
      let z : test_room ≡ length (listed_by rows o) + (test_room - length (listed_by rows o)) = omega arith in
      let all : take test_room (listed_by rows o ++ replicate test_room no_test)
      ≡ listed_by rows o ++ take (test_room - length (listed_by rows o)) (replicate test_room no_test) =
      ap (λ n. take n (listed_by rows o ++ replicate test_room no_test)) z
      ∙ take-append-add (listed_by rows o) (replicate test_room no_test) (test_room - length (listed_by rows o)) in
      ap (λ p. take (length (rows_for rows (get_or o i 0)))
      (drop (length (listed_by rows (take i o))) (take test_room (listed_by rows p ++ replicate test_room no_test)))) is
      ∙ ap (λ r. take (length (rows_for rows (get_or o i 0))) (drop (length (listed_by rows (take i o))) r))
      (all ∙ ap (λ l. l ++ take (test_room - length (listed_by rows o)) (replicate test_room no_test)) (listed_split rows o i h))
      ∙ middle (listed_by rows (take i o)) (rows_for rows (get_or o i 0)) (listed_by rows (drop (suc i) o))
      (take (test_room - length (listed_by rows o)) (replicate test_room no_test))
