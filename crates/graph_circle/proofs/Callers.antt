-- What a caller may conclude: only the edges between its nodes decide the circle of a graph.
use Prim.Native.Nat.{ℕ, zero, suc, ◌≤◌, ◌<◌}
use mathlib.Core.Path.{◌≡◌, refl, ◌∙◌, ap, ap₂}
use mathlib.Core.Bool.{cond}
use mathlib.Core.List.{List, [], ◌∷◌}
use mathlib.Core.Logic.{inl, inr}
use mathlib.Core.Option.{Option, none, some}
use native.Mathlib.Omega.{arith}
use lib.ListN.{get_or}
use Rattle.meaning.specs.Text.{is_in, from}
use Rattle.meaning.specs.Graph.{Into, edge, first_free, without}
use Rattle.meaning.specs.Circle.{left_by, stuck, lowest_into, up_to, came_to, go_back, circle_in, circle_for}
use Rattle.theory.specs.Graphs.Circles.{Lowest, lowest, stuck_in}
use Rattle.limits.specs.Sizes.{node_room}
use Rattle.graph_order.specs.Masks.{has, mask_into}
use Rattle.graph_order.proofs.Callers.{edge_mask, Below, below_without, below_from, free_same}
use Rattle.graph_circle.specs.declared.Circle.{Circle}
use Rattle.graph_circle.specs.Answers.{as_circle}

-- THE EDGES DECIDE: two graphs with the same edges between the nodes below n have the same circle

-- a node below n, if there is one
abbrev Within : ℕ → Option ℕ → Type 0
Within n none = Unit {0}
Within n (some p) = p < n

lowest_within : (into : Into) (n : ℕ) (left : List ℕ) (k : ℕ) → Below n left → Within n (lowest_into into left k)
lowest_within into n left k b = go (lowest_into into left k) (lowest into left k)
  where
    go : (o : Option ℕ) → Lowest into left k o → Within n o
    go none h = tt
    go (some p) h = b p h.0

module _ (n : ℕ) (into ino : Into) (alike : (p k : ℕ) → p < n → k < n → edge into p k ≡ edge ino p k) where
  stuck_same : (m : ℕ) (left : List ℕ) → Below n left → stuck into m left ≡ stuck ino m left
  unfolding stuck
  stuck_same zero left b = refl
  stuck_same (suc m) left b =
      ap (left_by left (λ k. stuck into m (without k left))) (free_same n into ino alike left left b b)
      ∙ rest (first_free ino left left) (λ k. stuck_same m (without k left) (below_without n k left b))
    where
      rest : (f : Option ℕ) → ((k : ℕ) → stuck into m (without k left) ≡ stuck ino m (without k left))
          → left_by left (λ k. stuck into m (without k left)) f ≡ left_by left (λ k. stuck ino m (without k left)) f
      rest none h = refl
      rest (some k) h = h k

  lowest_same : (left : List ℕ) (k : ℕ) → Below n left → k < n → lowest_into into left k ≡ lowest_into ino left k
  unfolding lowest_into
  lowest_same [] k b h = refl
  lowest_same (p ∷ ps) k b h = ap₂ (λ t o. cond t (some p) o) (alike p k (b p (inl refl)) h) (lowest_same ps k (λ j m. b j (inr m)) h)

  back_same : (left : List ℕ) → Below n left → (m k : ℕ) (trail : List ℕ) → k < n → go_back into left m k trail ≡ go_back ino left m k trail
  unfolding go_back
  back_same left b zero k trail h = refl
  back_same left b (suc m) k trail h =
      ap (came_to (k ∷ trail) (λ p. go_back into left m p (k ∷ trail))) (lowest_same left k b h)
      ∙ rest (lowest_into ino left k) (lowest_within ino n left k b) (λ p l. back_same left b m p (k ∷ trail) l)
    where
      rest : (o : Option ℕ) → Within n o → ((p : ℕ) → p < n → go_back into left m p (k ∷ trail) ≡ go_back ino left m p (k ∷ trail))
          → came_to (k ∷ trail) (λ p. go_back into left m p (k ∷ trail)) o ≡ came_to (k ∷ trail) (λ p. go_back ino left m p (k ∷ trail)) o
      rest none w h = refl
      rest (some p) w h = ap (cond (is_in p (k ∷ trail)) (p ∷ up_to p (k ∷ trail))) (h p w)

  pub circle_same : circle_for n into ≡ circle_for n ino
  unfolding circle_for
  circle_same = ap (circle_in into n) (stuck_same n (from 0 n) (below_from n))
      ∙ go (stuck ino n (from 0 n)) (λ k i. below_from n k (stuck_in ino n (from 0 n) k i))
    where
      go : (l : List ℕ) → Below n l → circle_in into n l ≡ circle_in ino n l
      go [] b = refl
      go (k ∷ l) b = back_same (k ∷ l) b n k [] (b k (inl refl))

-- so masks that have a graph's edges give its circle
pub find_same : (masks : List ℕ) (n : ℕ) (into : Into) (r : Circle) → n ≤ node_room → ((p k : ℕ) → p < n → k < n → has (get_or masks k 0) p ≡ edge into p k)
    → r ≡ as_circle (circle_for n (mask_into masks)) → r ≡ as_circle (circle_for n into)
find_same masks n into r h alike e = e ∙ ap as_circle (circle_same n (mask_into masks) into (λ p k l g. edge_mask masks p k (omega arith) ∙ alike p k l g))
