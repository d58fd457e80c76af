-- The way back from node to node, and the circle that it meets, in return form.
use Prim.Native.Nat.{ℕ, suc, ◌+◌, ◌^◌, ◌-◌, ◌≤◌, ◌<◌}
use mathlib.Core.Path.{◌≡◌, refl, sym, ◌∙◌, ap, ap₂}
use mathlib.Core.Bool.{Bool, true, false, cond}
use mathlib.Core.List.{List, [], ◌∷◌}
use mathlib.Core.Option.{Option, none, some}
use Rattle.std.specs.Prelude as Code
use Rattle.std.specs.Prelude.{Some, None, slice_get}
use native.Mathlib.Omega.{arith}
use native.Mathlib.Nat.{pow-le-pow_right}
use mir.Syntax.{w8}
use mir.Val.{Fits}
use lib.ListN.{length, get_or, take, drop, set, replicate, length-set, length-drop}
use lib.Seq.{take_all, drop-cons, get_or-set_same, drop-set-lt}
use lib.Bits.{bit_and, and_le_l}
use Rattle.meaning.specs.Text.{keep, is_in, from}
use Rattle.meaning.specs.Graph.{Into, edge}
use Rattle.meaning.specs.Circle.{stuck, lowest_into, up_to, came_to, go_back, circle_in, circle_for}
use Rattle.theory.specs.Lists.Members.{keep_same}
use Rattle.limits.specs.Sizes.{node_room}
use Rattle.graph_order.specs.Masks.{has, members, mask_into, width}
use Rattle.graph_order.proofs.Bits.{has_and, has_below}
use Rattle.graph_order.proofs.Members.{member_has, keep_both}
use Rattle.graph_order.proofs.Laws.{node_of}
use Rattle.graph_order.proofs.Callers.{edge_mask}
use Rattle.graph_circle.specs.declared.Circle.{Circle}
use Rattle.graph_circle.specs.Answers.{as_circle}
use Rattle.graph_circle.proofs.Laws.{first_of, first_node, lowest_below, came_there, came_nowhere}
use Rattle.graph_circle.proofs.Laws as L

-- THE WAY BACK: from the last node of the trail as from the first

-- the lowest of those left from which an edge leads to k is the lowest node of two masks' `&`
lowest_keep : (into : Into) (k : ℕ) (ps : List ℕ) → lowest_into into ps k ≡ first_of (keep (λ p. edge into p k) ps)
unfolding lowest_into keep
lowest_keep into k [] = refl
lowest_keep into k (p ∷ ps) = go (edge into p k) (lowest_keep into k ps)
  where
    go : (b : Bool) → lowest_into into ps k ≡ first_of (keep (λ p. edge into p k) ps)
        → cond b (some p) (lowest_into into ps k) ≡ first_of (elim b [ true ↦ p ∷ keep (λ p. edge into p k) ps | false ↦ keep (λ p. edge into p k) ps ])
    go true ih = refl
    go false ih = ih

lowest_and : (masks : List ℕ) (left k : ℕ) → left < 2 ^ width → lowest_into (mask_into masks) (members left) k
    ≡ first_of (members (bit_and left (get_or masks k 0)))
unfolding members
lowest_and masks left k h =
    lowest_keep (mask_into masks) k (members left)
    ∙ ap first_of (keep_same (λ p. edge (mask_into masks) p k) (has (get_or masks k 0)) (members left)
    (λ p i. edge_mask masks p k (has_below left width p h (member_has left p i)))
    ∙ keep_both (has left) (has (get_or masks k 0)) (has (bit_and left (get_or masks k 0))) (has_and left (get_or masks k 0)) (from 0 width))

pub and_below : (left n m : ℕ) → left < 2 ^ n → bit_and left m < 2 ^ n
and_below left n m h = omega (arith, and_le_l left m)

-- the whole way
abbrev pub back : List ℕ → ℕ → ℕ → ℕ → List ℕ
back masks left n first = go_back (mask_into masks) (members left) n first []

pub record Backing (masks : List ℕ) (left n first : ℕ) (trail : List ℕ) (at k : ℕ) : Type 0 where
  pub held : length trail ≡ node_room
  pub within : at ≤ node_room
  pub node : k < n
  pub same : back masks left n first ≡ go_back (mask_into masks) (members left) (at + n - node_room) k (drop at trail)

module _ (masks : List ℕ) (left n first : ℕ) (few : n ≤ node_room) (below : left < 2 ^ n) where
  pub back_start : first < n → Backing masks left n first (replicate node_room 0) node_room first
  back_start l =
      let z : n ≡ node_room + n - node_room = omega arith in
      record { held = refl; within = omega arith; node = l; same = ap (λ m. go_back (mask_into masks) (members left) m first []) z }

  module _ (trail : List ℕ) (at k : ℕ) (s : Backing masks left n first trail at k) where
    pub back_end : at + n ≤ node_room → (c : Circle) → c ≡ as_circle [] → c ≡ as_circle (back masks left n first)
    unfolding go_back
    back_end h c e =
        let z : at + n - node_room ≡ 0 = omega arith in
        e ∙ sym (ap as_circle (s.same ∙ ap (λ m. go_back (mask_into masks) (members left) m k (drop at trail)) z))

    pub back_fits : Fits w8 k
    back_fits = omega (arith, s.node)

    pub back_index : k < node_room
    back_index = omega (arith, s.node)

    -- one node further
    module _ (l : node_room < at + n) where
      -- the trail with k too
      abbrev longer : List ℕ
      longer = set trail (at - 1) k

      pub back_long : length longer ≡ node_room
      back_long = length-set trail (at - 1) k ∙ s.held

      trail_is : drop (at - 1) longer ≡ k ∷ drop at trail
      trail_is =
          let h : length trail ≡ node_room = s.held in
          let b : at ≤ node_room = s.within in
          let m : length longer ≡ node_room = back_long in
          let z : suc (at - 1) ≡ at = omega arith in
          drop-cons longer (at - 1) 0 (omega arith)
          ∙ ap₂ (λ x t. x ∷ t) (get_or-set_same trail (at - 1) k 0 (omega arith))
          (drop-set-lt (suc (at - 1)) trail (at - 1) k (omega arith) ∙ ap (λ m. drop m trail) z)

      -- as the code lends it
      lent_all : take (node_room - (at - 1)) (drop (at - 1) longer) ≡ drop (at - 1) longer
      lent_all = take_all (node_room - (at - 1)) (drop (at - 1) longer) (omega (arith, length-drop (at - 1) longer, back_long))

      -- from the node p on, and by what the search for the lowest answered
      abbrev further : ℕ → List ℕ
      further p = go_back (mask_into masks) (members left) (at - 1 + n - node_room) p (drop (at - 1) longer)

      module _ (f : Code.Option ℕ) (is : f ≡ slice_get (members (bit_and left (get_or masks k 0))) 0) where
        step_back : back masks left n first ≡ came_to (drop (at - 1) longer) further (node_of f)
        unfolding go_back
        step_back =
            let z : at + n - node_room ≡ suc (at - 1 + n - node_room) = omega arith in
            s.same
            ∙ ap (λ m. go_back (mask_into masks) (members left) m k (drop at trail)) z
            ∙ ap₂ (λ t o. came_to t (λ p. go_back (mask_into masks) (members left) (at - 1 + n - node_room) p t) o) (sym trail_is)
            (lowest_and masks left k (wide n few below) ∙ first_node (members (bit_and left (get_or masks k 0))) f is)
          where
            wide : (n : ℕ) → n ≤ width → left < 2 ^ n → left < 2 ^ width
            wide n h g = let p : 2 ^ n ≤ 2 ^ width = pow-le-pow_right (omega arith) h in omega arith

        pub back_none : f ≡ None → (c : Circle) → c ≡ as_circle [] → c ≡ as_circle (back masks left n first)
        back_none t c q = q ∙ sym (ap as_circle (step_back ∙ ap (λ o. came_to (drop (at - 1) longer) further (node_of o)) t))

      -- it is p
      module _ (p : ℕ) (is : Some p ≡ slice_get (members (bit_and left (get_or masks k 0))) 0) where
        p_below : p < n
        p_below = lowest_below (bit_and left (get_or masks k 0)) n (and_below left n (get_or masks k 0) below) p is

        pub back_casts : Fits w8 p
        back_casts = omega (arith, p_below)

        way : back masks left n first ≡ cond (is_in p (drop (at - 1) longer)) (p ∷ up_to p (drop (at - 1) longer)) (further p)
        way = step_back (Some p) is

        pub back_found : (c : Circle) → Some c ≡ L.came p (take (node_room - (at - 1)) (drop (at - 1) longer)) → c ≡ as_circle (back masks left n first)
        back_found c e =
            let there = came_there p (drop (at - 1) longer) c (e ∙ ap (L.came p) lent_all) in
            there.1 ∙ sym (ap as_circle (way ∙ ap (λ b. cond b (p ∷ up_to p (drop (at - 1) longer)) (further p)) there.0))

        pub back_next : None ≡ L.came p (take (node_room - (at - 1)) (drop (at - 1) longer)) → Backing masks left n first longer (at - 1) p
        back_next e = record {
          held = back_long;
          within = omega (arith, s.within);
          node = p_below;
          same = way ∙ rw (came_nowhere p (drop (at - 1) longer) (e ∙ ap (L.came p) lent_all));
        }

pub ruleset backing = (and_below, back_start, back_end, back_fits, back_index, back_long, back_none, back_casts, back_found, back_next)

-- THE CIRCLE

module _ (masks : List ℕ) (n left : ℕ) (is : members left ≡ stuck (mask_into masks) n (from 0 n)) where
  -- by the first of those left
  abbrev begun : List ℕ → Option ℕ → List ℕ
  begun l none = []
  begun l (some k) = go_back (mask_into masks) l n k []

  circle_begun : (f : Code.Option ℕ) → f ≡ slice_get (members left) 0 → circle_for n (mask_into masks) ≡ begun (members left) (node_of f)
  unfolding circle_for
  circle_begun f lowest =
      ap (circle_in (mask_into masks) n) (sym is) ∙ go (members left) ∙ ap (begun (members left)) (first_node (members left) f lowest)
    where
      go : (l : List ℕ) → circle_in (mask_into masks) n l ≡ begun l (first_of l)
      go [] = refl
      go (k ∷ l) = refl

  pub find_none : (f : Code.Option ℕ) → f ≡ slice_get (members left) 0 → f ≡ None → (c : Circle) → c ≡ as_circle []
      → c ≡ as_circle (circle_for n (mask_into masks))
  find_none f lowest t c q = q ∙ sym (ap as_circle (circle_begun f lowest ∙ ap (λ o. begun (members left) (node_of o)) t))

  module _ (k : ℕ) (lowest : Some k ≡ slice_get (members left) 0) where
    pub find_below : left < 2 ^ n → k < n
    find_below h = lowest_below left n h k lowest

    pub find_back : (c : Circle) → c ≡ as_circle (back masks left n k) → c ≡ as_circle (circle_for n (mask_into masks))
    find_back c q = q ∙ sym (ap as_circle (circle_begun (Some k) lowest))

pub ruleset finding = (find_none, find_below, find_back)
