-- The functions' answers in return form: the premises are what is known at a place, the conclusion is what is asked there.
use Prim.Native.Nat.{ℕ, zero, suc, ◌+◌, ◌*◌, ◌%◌, ◌^◌, ◌-◌, ◌≤◌, ◌<◌}
use mathlib.Core.Path.{◌≡◌, refl, sym, ◌∙◌, ap, ap₂}
use mathlib.Core.Bool.{Bool, true, false, cond}
use mathlib.Core.List.{List, [], ◌∷◌, ◌++◌}
use mathlib.Core.Option.{Option, none, some}
use mathlib.Core.Logic.{inl}
use native.Mathlib.Omega.{arith}
use native.Mathlib.Numerals.{add-one}
use native.Mathlib.Decide.{ℕ_discrete}
use mir.Syntax.{w64}
use lib.Dec.{eqb, ltb, leb-suc-suc}
use lib.ListN.{length, take, drop, replicate}
use lib.Pow.{pow_pos}
use lib.Bits.{bit_xor}
use borrow.Author.Tests.{eq-eqb, ne_eqb, lt-ltb}
use Rattle.std.specs.Prelude as Code
use Rattle.std.specs.Prelude.{Some, None, slice_get, position}
use Rattle.std.specs.Int.{trailing_zeros}
use Rattle.std.specs.List.{position_or_len}
use Rattle.std.proofs.lemmas.List.{drop-replicate}
use Rattle.std.proofs.lemmas.List.Recursion.{is_position_or_len}
use Rattle.meaning.specs.Text.{In, any, is_in, from}
use Rattle.meaning.specs.Graph.{without}
use Rattle.meaning.specs.Circle.{left_by, stuck, up_to}
use Rattle.limits.specs.Sizes.{node_room}
use Rattle.graph_order.specs.Masks.{has, members, mask_into, width}
use Rattle.graph_order.specs.Answers.{as_free}
use Rattle.graph_order.proofs.Bits.{has_below, has_lowest}
use Rattle.graph_order.proofs.Members.{members_from, member_has, members_all, members_here, members_past, members_end, members_full}
use Rattle.graph_order.proofs.Laws.{free_of, node_of, answered, node_is, node_below, without_below, without_members}
use Rattle.graph_circle.specs.declared.Circle.{Circle}
use Rattle.graph_circle.specs.Answers.{as_circle}

-- WHAT IS LEFT WHEN NONE IS FREE: of the nodes left as of all

pub record Taking (masks : List ℕ) (n left i : ℕ) : Type 0 where
  pub within : i ≤ n
  pub below : left < 2 ^ n
  pub same : stuck (mask_into masks) n (from 0 n) ≡ stuck (mask_into masks) (n - i) (members left)

module _ (masks : List ℕ) (n : ℕ) where
  pub taking_start : (left : ℕ) → n ≤ node_room → left ≡ 2 ^ n - 1 → Taking masks n left 0
  taking_start left h e =
      let p : 0 < 2 ^ n = pow_pos n in
      let z : n - 0 ≡ n = omega arith in
      record {
        within = omega arith;
        below = omega arith;
        same = ap₂ (stuck (mask_into masks)) (sym z) (sym (ap members e ∙ members_full n h));
      }

  module _ (left i : ℕ) (s : Taking masks n left i) where
    -- by what the search finds, where nodes are left
    abbrev onward : Option ℕ → List ℕ
    onward = left_by (members left) (λ k. stuck (mask_into masks) (n - (i + 1)) (without k (members left)))

    one_left : i < n → stuck (mask_into masks) n (from 0 n) ≡ onward (free_of masks left)
    unfolding stuck
    one_left l =
        let z : n - i ≡ suc (n - (i + 1)) = omega arith in
        s.same ∙ ap (λ m. stuck (mask_into masks) m (members left)) z

    pub taking_stuck : (p : Code.Option ℕ) → i < n → p ≡ as_free (free_of masks left) → p ≡ None → members left ≡ stuck (mask_into masks) n (from 0 n)
    taking_stuck p l e t = sym (one_left l ∙ ap onward (answered (free_of masks left) p e ∙ ap node_of t))

    module _ (k : ℕ) (e : Some k ≡ as_free (free_of masks left)) (h : n ≤ node_room) where
      pub taking_shifts : k < width
      taking_shifts = omega (arith, node_below masks left n s.below k e)

      pub taking_next : i < n → (left' i' : ℕ) → left' ≡ bit_xor left (1 * 2 ^ k % 18446744073709551616) → i' ≡ i + 1 → Taking masks n left' i'
      taking_next l left' i' x z =
          record {
            within = omega arith;
            below = without_below masks left n s.below k e h left' x;
            same = one_left l
                ∙ ap onward (node_is masks left n s.below k e)
                ∙ ap₂ (λ m l. stuck (mask_into masks) (n - m) l) (sym z) (without_members masks left n s.below k e h left' x);
          }

    pub taking_end : n ≤ i → members left ≡ stuck (mask_into masks) n (from 0 n)
    unfolding stuck
    taking_end h =
        let z : n - i ≡ 0 = omega arith in
        sym (s.same ∙ ap (λ m. stuck (mask_into masks) m (members left)) z)

pub ruleset taking = (taking_start, taking_stuck, taking_shifts, taking_next, taking_end)

-- THE LOWEST NODE OF A MASK

-- none of its nodes is below i
none_below : (mask i : ℕ) → i ≤ width → ((k : ℕ) → k < i → has mask k ≡ false) → members mask ≡ members_from i mask
none_below mask zero l h = members_all mask
none_below mask (suc i) l h =
    none_below mask i (omega arith) (λ k g. h k (omega arith))
    ∙ members_past mask i (omega arith) (h i (omega arith))
    ∙ ap (λ k. members_from k mask) (add-one i)

module _ (mask : ℕ) where
  pub lowest_none : mask ≡ 0 → None ≡ slice_get (members mask) 0
  lowest_none e =
      let p : 0 < 2 ^ 0 = pow_pos 0 in
      sym (ap (λ l. slice_get l 0) (ap members e ∙ members_all 0 ∙ members_end 0 0 0 p (omega arith)))

  pub lowest_some : mask < 2 ^ 64 → (mask ≡ 0 → ⊥) → Some (trailing_zeros w64 mask) ≡ slice_get (members mask) 0
  lowest_some h ne =
      let low = has_lowest mask h ne in
      sym (ap (λ l. slice_get l 0) (none_below mask (trailing_zeros w64 mask) (omega (arith, low.0)) low.2
      ∙ members_here mask (trailing_zeros w64 mask) low.0 low.1))

pub ruleset looking = (lowest_none, lowest_some)

-- what it answered: the first of some nodes is one of them
abbrev pub first_of : List ℕ → Option ℕ
first_of [] = none
first_of (k ∷ ks) = some k

pub first_node : (ks : List ℕ) (r : Code.Option ℕ) → r ≡ slice_get ks 0 → first_of ks ≡ node_of r
first_node [] r e = sym (ap node_of e)
first_node (k ∷ ks) r e = sym (ap node_of e)

first_in : (ks : List ℕ) (k : ℕ) → Some k ≡ slice_get ks 0 → In k ks
first_in [] k e = cc
first_in (j ∷ ks) k e = let z : k ≡ j = cc in inl z

pub lowest_below : (mask n : ℕ) → mask < 2 ^ n → (k : ℕ) → Some k ≡ slice_get (members mask) 0 → k < n
lowest_below mask n h k e = has_below mask n k h (member_has mask k (first_in (members mask) k e))

-- WHERE A NODE STANDS ON THE TRAIL

-- the part before p, and whether p is there
module _ (p : ℕ) where
  upto_here : (x : ℕ) (l : List ℕ) → x ≡ p → up_to p (x ∷ l) ≡ []
  unfolding up_to
  upto_here x l e = rw (eq-eqb x p e)

  upto_past : (x : ℕ) (l : List ℕ) → (x ≡ p → ⊥) → up_to p (x ∷ l) ≡ x ∷ up_to p l
  unfolding up_to
  upto_past x l ne = rw (ne_eqb x p ne)

  upto_in : (l : List ℕ) → is_in p l ≡ ltb (length (up_to p l)) (length l)
  unfolding up_to any
  upto_in [] = refl
  upto_in (x ∷ l) = go (ℕ_discrete x p) (upto_in l)
    where
      go : Dec (x ≡ p) → is_in p l ≡ ltb (length (up_to p l)) (length l) → is_in p (x ∷ l) ≡ ltb (length (up_to p (x ∷ l))) (length (x ∷ l))
      go (yes e) ih = rw (eq-eqb p x (sym e), upto_here x l e) (sym (lt-ltb 0 (length (x ∷ l)) (omega arith)))
      go (no ne) ih = rw (ne_eqb p x (λ e. ne (sym e)), upto_past x l ne) (ih ∙ sym (leb-suc-suc (suc (length (up_to p l))) (length l)))

  upto_front : (l : List ℕ) → take (length (up_to p l)) l ≡ up_to p l
  unfolding up_to
  upto_front [] = refl
  upto_front (x ∷ l) = go (eqb x p) (upto_front l)
    where
      go : (b : Bool) → take (length (up_to p l)) l ≡ up_to p l → take (length (cond b [] (x ∷ up_to p l))) (x ∷ l) ≡ cond b [] (x ∷ up_to p l)
      go true ih = refl
      go false ih = ap (λ r. x ∷ r) ih

-- the place that is searched for is the length of that part
module _ (p : ℕ) (l : List ℕ) where
  place_is : position (λ q. eqb q p) l ≡ cond (is_in p l) (Some (length (up_to p l))) None
  unfolding up_to
  place_is =
      let e : length (up_to p l) ≡ position_or_len (λ q. eqb q p) l =
      is_position_or_len (λ l. length (up_to p l)) (λ q. eqb q p) refl (λ x xs. more x (length (up_to p xs)) (up_to p xs) (eqb x p) refl) l in
      ap (λ n. cond (ltb n (length l)) (Some n) None) (sym e) ∙ ap (λ b. cond b (Some (length (up_to p l))) None) (sym (upto_in p l))
    where
      more : (x n : ℕ) (ks : List ℕ) (b : Bool) → n ≡ length ks → length (cond b [] (x ∷ ks)) ≡ cond b 0 (1 + n)
      more x n ks true e = refl
      more x n ks false e = omega arith

-- THE CIRCLE IS TOLD

pub told_is : (p : ℕ) (part copied : List ℕ) → length part < node_room → copied ≡ part
    → ◌≡◌ {A = Circle} (record { len = length part + 1; nodes = p ∷ (copied ++ drop (length part + 1 - 1) (replicate (node_room - 1) 0)) })
    (as_circle (p ∷ part))
told_is p part copied h e =
    let z : node_room - 1 - (length part + 1 - 1) ≡ node_room - suc (length part) = omega arith in
    ap₂ (λ k r. record { len = k; nodes = p ∷ r }) (add-one (length part))
    (ap₂ (λ c r. c ++ r) e (drop-replicate (length part + 1 - 1) (node_room - 1) 0 ∙ ap (λ m. replicate m 0) z))

-- AND WHERE IT STANDS ON THE TRAIL

module _ (p : ℕ) (trail : List ℕ) where
  -- the answer for a node that stands there, or not
  abbrev pub came : Code.Option Circle
  came = cond (is_in p trail) (Some (as_circle (p ∷ up_to p trail))) None

  pub came_none : None ≡ position (λ q. eqb q p) trail → None ≡ came
  came_none e = go (is_in p trail) (e ∙ place_is p trail)
    where
      go : (b : Bool) → None ≡ cond b (Some (length (up_to p trail))) None → None ≡ cond b (Some (as_circle (p ∷ up_to p trail))) None
      go true f = cc
      go false f = refl

  pub came_some : (i : ℕ) → Some i ≡ position (λ q. eqb q p) trail → (c : Circle) → c ≡ as_circle (p ∷ take i trail) → Some c ≡ came
  came_some i e c q = go (is_in p trail) (e ∙ place_is p trail)
    where
      go : (b : Bool) → Some i ≡ cond b (Some (length (up_to p trail))) None → Some c ≡ cond b (Some (as_circle (p ∷ up_to p trail))) None
      go true f =
          let z : i ≡ length (up_to p trail) = cc in
          ap Some (q ∙ ap (λ t. as_circle (p ∷ t)) (ap (λ n. take n trail) z ∙ upto_front p trail))
      go false f = cc

pub ruleset coming = (came_none, came_some)

-- what it tells
pub came_there : (p : ℕ) (trail : List ℕ) (c : Circle) → Some c ≡ came p trail → (is_in p trail ≡ true) × (c ≡ as_circle (p ∷ up_to p trail))
came_there p trail c e = go (is_in p trail) refl e
  where
    go : (b : Bool) → is_in p trail ≡ b → Some c ≡ cond b (Some (as_circle (p ∷ up_to p trail))) None
        → (is_in p trail ≡ true) × (c ≡ as_circle (p ∷ up_to p trail))
    go true t f = (t, cc)
    go false t f = cc

pub came_nowhere : (p : ℕ) (trail : List ℕ) → None ≡ came p trail → is_in p trail ≡ false
came_nowhere p trail e = go (is_in p trail) refl e
  where
    go : (b : Bool) → is_in p trail ≡ b → None ≡ cond b (Some (as_circle (p ∷ up_to p trail))) None → is_in p trail ≡ false
    go true t f = cc
    go false t f = t
