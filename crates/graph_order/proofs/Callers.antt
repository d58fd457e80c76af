-- What a caller may conclude: how the masks of a graph are built, that only the edges decide the order, and what the answer says.
use Prim.Native.Nat.{ℕ, zero, suc, ◌-◌, ◌≤◌, ◌<◌}
use mathlib.Core.Path.{◌≡◌, refl, sym, ◌∙◌, ap, ap₂}
use mathlib.Core.Bool.{true, false}
use mathlib.Core.List.{List, [], ◌∷◌, ◌++◌}
use mathlib.Core.Logic.{inl, inr}
use mathlib.Core.Option.{Option, none, some}
use Rattle.std.specs.Prelude as Code
use Rattle.std.specs.Prelude.{Some, None}
use native.Mathlib.Omega.{arith}
use lib.ListN.{length, get_or, take, replicate}
use lib.Seq.{take_at}
use Rattle.meaning.specs.Text.{In, any, is_in, from}
use Rattle.meaning.specs.Graph.{Into, edge, waits, first_free, without, then, first, order_of, order_for}
use Rattle.theory.specs.Lists.Members.{in_any, any_same, is_in_lem, in_is, common, without_in, from_in}
use Rattle.limits.specs.Sizes.{node_room}
use Rattle.graph_order.specs.Masks.{has, members, mask_into, width}
use Rattle.graph_order.specs.Answers.{as_sorting}
pub use Rattle.graph_order.proofs.Bits.{has_none}
use Rattle.graph_order.proofs.Members.{same_test, member_has, has_member}
pub use Rattle.graph_order.proofs.Laws.{has_with}

-- MASKS

-- masks as a graph: none at the start, and one edge more
pub edge_mask : (masks : List ℕ) (p k : ℕ) → p < width → edge (mask_into masks) p k ≡ has (get_or masks k 0) p
unfolding edge mask_into
edge_mask masks p k h =
    same_test (is_in p (members (get_or masks k 0))) (has (get_or masks k 0) p)
    (λ t. member_has (get_or masks k 0) p (is_in_lem p (members (get_or masks k 0)) t))
    (λ t. in_is p (members (get_or masks k 0)) (has_member (get_or masks k 0) p h t))

pub edges_none : (n p k : ℕ) → has (get_or (replicate n 0) k 0) p ≡ false
edges_none n p k = ap (λ m. has m p) (blank n k) ∙ has_none p
  where
    blank : (n k : ℕ) → get_or {A = ℕ} (replicate n 0) k 0 ≡ 0
    blank zero k = refl
    blank (suc n) zero = refl
    blank (suc n) (suc k) = blank n k

-- THE EDGES DECIDE: two graphs with the same edges between the nodes below n have the same order

-- a common member, looked for from either side
any_flip : (xs ys : List ℕ) → any (λ p. is_in p ys) xs ≡ any (λ p. is_in p xs) ys
any_flip xs ys = same_test (any (λ p. is_in p ys) xs) (any (λ p. is_in p xs) ys) (swap xs ys) (swap ys xs)
  where
    swap : (xs ys : List ℕ) → any (λ p. is_in p ys) xs ≡ true → any (λ p. is_in p xs) ys ≡ true
    swap xs ys t = let (p, m, e) = common xs ys t in in_any (λ p. is_in p xs) p ys m e

-- all of them below n
abbrev pub Below : ℕ → List ℕ → Type 0
Below n l = (k : ℕ) → In k l → k < n

pub below_without : (n k : ℕ) (left : List ℕ) → Below n left → Below n (without k left)
below_without n k left b j h = b j (without_in j k left h).0

pub below_from : (n : ℕ) → Below n (from 0 n)
below_from n k m = let h = (from_in n 0 k m).1 in omega arith

module _ (n : ℕ) (into ino : Into) (alike : (p k : ℕ) → p < n → k < n → edge into p k ≡ edge ino p k) where
  waits_same : (left : List ℕ) (k : ℕ) → Below n left → k < n → waits into left k ≡ waits ino left k
  unfolding waits edge
  waits_same left k b h =
      any_flip (into k) left ∙ any_same (λ p. is_in p (into k)) (λ p. is_in p (ino k)) left (λ p m. alike p k (b p m) h) ∙ any_flip left (ino k)

  pub free_same : (left ks : List ℕ) → Below n left → Below n ks → first_free into left ks ≡ first_free ino left ks
  unfolding first_free
  free_same left [] b c = refl
  free_same left (k ∷ ks) b c =
      ap₂ (λ w f. elim w [ true ↦ f | false ↦ some k ]) (waits_same left k b (c k (inl refl))) (free_same left ks b (λ j m. c j (inr m)))

  of_same : (m : ℕ) (left : List ℕ) → Below n left → order_of into m left ≡ order_of ino m left
  unfolding order_of
  of_same zero left b = refl
  of_same (suc m) left b =
      ap (λ f. first f (λ k. order_of into m (without k left))) (free_same left left b b)
      ∙ rest (first_free ino left left) (λ k. of_same m (without k left) (below_without n k left b))
    where
      rest : (f : Option ℕ) → ((k : ℕ) → order_of into m (without k left) ≡ order_of ino m (without k left))
          → first f (λ k. order_of into m (without k left)) ≡ first f (λ k. order_of ino m (without k left))
      rest none h = refl
      rest (some k) h = ap (then k) (h k)

  pub order_same : order_for n into ≡ order_for n ino
  unfolding order_for
  order_same = of_same n (from 0 n) (below_from n)

-- so masks that have a graph's edges give its order
pub sort_same : (masks : List ℕ) (n : ℕ) (into : Into) (r : Code.Option (List ℕ)) → n ≤ node_room
    → ((p k : ℕ) → p < n → k < n → has (get_or masks k 0) p ≡ edge into p k)
    → r ≡ as_sorting (order_for n (mask_into masks)) → r ≡ as_sorting (order_for n into)
sort_same masks n into r h alike e = e ∙ ap as_sorting (order_same n (mask_into masks) into (λ p k l g. edge_mask masks p k (omega arith) ∙ alike p k l g))

-- THE ANSWER

-- an order of m nodes is m long
abbrev Long : ℕ → Option (List ℕ) → Type 0
Long m none = Unit {0}
Long m (some o) = length o ≡ m

order_long : (into : Into) (m : ℕ) (left : List ℕ) → Long m (order_of into m left)
unfolding order_of
order_long into zero left = refl
order_long into (suc m) left = go (first_free into left left) (λ k. order_long into m (without k left))
  where
    more : (k : ℕ) (x : Option (List ℕ)) → Long m x → Long (suc m) (then k x)
    more k none h = tt
    more k (some o) h = ap suc h

    go : (f : Option ℕ) → ((k : ℕ) → Long m (order_of into m (without k left))) → Long (suc m) (first f (λ k. order_of into m (without k left)))
    go none h = tt
    go (some k) h = more k (order_of into m (without k left)) (h k)

module _ (n : ℕ) (into : Into) (r : Code.Option (List ℕ)) (is : r ≡ as_sorting (order_for n into)) where
  pub sort_none : r ≡ None → order_for n into ≡ none
  sort_none t = go (order_for n into) (sym is ∙ t)
    where
      go : (x : Option (List ℕ)) → as_sorting x ≡ None → x ≡ none
      go none t = refl
      go (some o) t = cc

  pub sort_some : (order : List ℕ) → r ≡ Some order → order_for n into ≡ some (take n order)
  unfolding order_for
  sort_some order t = go (order_of into n (from 0 n)) (order_long into n (from 0 n)) (sym is ∙ t)
    where
      go : (x : Option (List ℕ)) → Long n x → as_sorting x ≡ Some order → x ≡ some (take n order)
      go none h t = cc
      go (some o) h t =
          let e : o ++ replicate (node_room - length o) 0 ≡ order = cc in
          ap some (sym (take_at o (replicate (node_room - length o) 0) n h) ∙ ap (take n) e)
