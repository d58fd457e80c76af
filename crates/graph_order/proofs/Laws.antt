-- The functions' answers in return form: the premises are what is known at a place, the conclusion is what is asked there.
use Prim.Native.Nat.{ℕ, zero, suc, ◌+◌, ◌*◌, ◌%◌, ◌^◌, ◌-◌, ◌≤◌, ◌<◌}
use mathlib.Core.Path.{◌≡◌, refl, sym, ◌∙◌, ap, ap₂, subst}
use mathlib.Core.Bool.{Bool, true, false, not, ◌&&◌, ◌||◌, cond, true≢false, and-true, and-false, or-false}
use mathlib.Core.List.{List, [], ◌∷◌, ◌++◌}
use mathlib.Core.Option.{Option, none, some}
use Rattle.std.specs.Prelude as Code
use Rattle.std.specs.Prelude.{Some, None, MatchOption}
use mathlib.Core.Logic.{inl, inr}
use native.Mathlib.Omega.{arith}
use native.Mathlib.Numerals.{add-one}
use mir.Syntax.{w8}
use mir.Val.{Fits}
use lib.Dec.{eqb, ltb}
use lib.ListN.{length, get_or, take, drop, set, replicate, length-set, take-append-drop}
use lib.Seq.{take-suc-set, drop-set-lt, append_snoc}
use lib.Pow.{pow-lt, pow_pos}
use lib.Bits.{bit_and, bit_or, bit_xor, xor_lt}
use borrow.Author.Tests.{lt-ltb, le-ltb, not-true}
use Rattle.meaning.specs.Text.{In}
use Rattle.meaning.specs.Graph.{Into, waits, first_free, without, then, first, order_of, order_for}
use Rattle.limits.specs.Sizes.{node_room}
use Rattle.graph_order.specs.Masks.{has, members, mask_into, meet, with_bit, width}
use Rattle.graph_order.specs.Answers.{as_sorting, as_free}
use Rattle.graph_order.proofs.Bits.{shifted, has_or, has_below}
use Rattle.graph_order.proofs.Members.{and_left, and_right, members_from, member_has}
use Rattle.graph_order.proofs.Members.{members_all, members_here, members_past, members_end, members_full, members_without, meet_and}

-- A MASK WITH ONE MORE NODE

pub with_past : (m k : ℕ) → width ≤ k → m ≡ with_bit m k
unfolding with_bit
with_past m k h = sym (rw (le-ltb k width h))

pub with_room_lem : (m k : ℕ) → k < width → bit_or m (1 * 2 ^ k % 18446744073709551616) ≡ with_bit m k
unfolding with_bit
with_room_lem m k h = sym (rw (lt-ltb k width h) (ap (bit_or m) (sym (shifted k h))))

pub has_with : (m k j : ℕ) → has (with_bit m k) j ≡ has m j || (eqb j k && ltb k width)
unfolding with_bit
has_with m k j = go (ltb k width)
  where
    go : (b : Bool) → has (cond b (bit_or m (2 ^ k)) m) j ≡ has m j || (eqb j k && b)
    go true = has_or m k j ∙ sym (rw (and-true (eqb j k)))
    go false = sym (rw (and-false (eqb j k), or-false (has m j)))

pub with_nodes : (m k r : ℕ) → r ≡ with_bit m k → (j : ℕ) → has r j ≡ has m j || (eqb j k && ltb k width)
with_nodes m k r e j = ap (λ x. has x j) e ∙ has_with m k j

pub ruleset adding = (with_past, with_room_lem, with_nodes)

-- A FREE NODE

pub free_left : (mask left k : ℕ) → mask < 2 ^ 64 → has left k ≡ true → eqb (bit_and mask left) 0 ≡ has left k && not (meet mask left)
free_left mask left k h t = sym (rw (t, meet_and mask left h) (twice (eqb (bit_and mask left) 0)))
  where
    twice : (b : Bool) → not (not b) ≡ b
    twice true = refl
    twice false = refl

-- THE FIRST FREE NODE: what is behind the cursor decides

module _ (into : Into) (left : List ℕ) (k : ℕ) (ks : List ℕ) where
  free_here : waits into left k ≡ false → first_free into left (k ∷ ks) ≡ some k
  unfolding first_free
  free_here e = rw (e, first_free)

  free_waits : waits into left k ≡ true → first_free into left (k ∷ ks) ≡ first_free into left ks
  unfolding first_free
  free_waits e = rw (e, first_free)

-- it is one of those among which it is looked for
abbrev Among : List ℕ → Option ℕ → Type 0
Among ks none = Unit {0}
Among ks (some k) = In k ks

free_among : (into : Into) (left ks : List ℕ) → Among ks (first_free into left ks)
unfolding first_free
free_among into left [] = tt
free_among into left (x ∷ ks) = go (waits into left x) (first_free into left ks) (free_among into left ks)
  where
    go : (b : Bool) (f : Option ℕ) → Among ks f → Among (x ∷ ks) (elim b [ true ↦ f | false ↦ some x ])
    go true none h = tt
    go true (some k) h = inr h
    go false f h = inl refl

-- the first free node of those in the mask; and of those from node i on
abbrev pub free_of : List ℕ → ℕ → Option ℕ
free_of masks left = first_free (mask_into masks) (members left) (members left)

abbrev free_from : List ℕ → ℕ → ℕ → Option ℕ
free_from masks left i = first_free (mask_into masks) (members left) (members_from i left)

-- the test of a node
abbrev pub free_at : List ℕ → ℕ → ℕ → Bool
free_at masks left k = has left k && not (meet (get_or masks k 0) left)

module _ (masks : List ℕ) (left : ℕ) where
  taken : (i : ℕ) → i < width → free_at masks left i ≡ true → free_from masks left i ≡ some i
  unfolding waits meet mask_into
  taken i h t =
      let free : meet (get_or masks i 0) left ≡ false = not-true _ (and_right (has left i) (not (meet (get_or masks i 0) left)) t) in
      ap (first_free (mask_into masks) (members left)) (members_here left i h (and_left (has left i) (not (meet (get_or masks i 0) left)) t))
      ∙ free_here (mask_into masks) (members left) i (members_from (i + 1) left) free

  passed : (i : ℕ) → i < width → (a c : Bool) → has left i ≡ a → meet (get_or masks i 0) left ≡ c → a && not c ≡ false
      → free_from masks left i ≡ free_from masks left (i + 1)
  unfolding waits meet mask_into
  passed i h true true t w q =
      ap (first_free (mask_into masks) (members left)) (members_here left i h t)
      ∙ free_waits (mask_into masks) (members left) i (members_from (i + 1) left) w
  passed i h true false t w q = absurd (true≢false q)
  passed i h false c t w q = ap (first_free (mask_into masks) (members left)) (members_past left i h t)

  -- none of the nodes below i is free
  passed_all : (i : ℕ) → i ≤ width → ((k : ℕ) → k < i → free_at masks left k ≡ false) → free_of masks left ≡ free_from masks left i
  passed_all zero l h = ap (first_free (mask_into masks) (members left)) (members_all left)
  passed_all (suc i) l h =
      passed_all i (omega arith) (λ k g. h k (omega arith))
      ∙ passed i (omega arith) (has left i) (meet (get_or masks i 0) left) refl refl (h i (omega arith))
      ∙ ap (free_from masks left) (add-one i)

  -- so the first of the numbers below n that is free is the first free node
  pub first_is : (n : ℕ) (r : Code.Option ℕ) → n ≤ node_room → left < 2 ^ n
      → MatchOption r ((k : ℕ) → 0 ≤ k → k < n → free_at masks left k ≡ false)
      (λ i. (0 ≤ i) × (i < n) × (free_at masks left i ≡ true) × ((k : ℕ) → 0 ≤ k → k < i → free_at masks left k ≡ false))
      → r ≡ as_free (free_of masks left)
  unfolding first_free
  first_is n None h b m =
      sym (ap as_free (passed_all n (omega arith) (λ k l. m k (omega arith) l)
      ∙ ap (first_free (mask_into masks) (members left)) (members_end left n n b (omega arith))))
  first_is n (Some i) h b m =
      sym (ap as_free (passed_all i (omega (arith, m.1)) (λ k l. m.3 k (omega arith) l) ∙ taken i (omega (arith, m.1)) m.2))

-- WHAT THE SEARCH ANSWERED

abbrev pub node_of : Code.Option ℕ → Option ℕ
node_of (Some k) = some k
node_of None = none

pub answered : (f : Option ℕ) (p : Code.Option ℕ) → p ≡ as_free f → f ≡ node_of p
answered none p e = sym (ap node_of e)
answered (some k) p e = sym (ap node_of e)

-- a node was found: it is in the mask, and the mask without it has the others
module _ (masks : List ℕ) (left n : ℕ) (below : left < 2 ^ n) (k : ℕ) (e : Some k ≡ as_free (free_of masks left)) where
  pub node_is : free_of masks left ≡ some k
  node_is = answered (free_of masks left) (Some k) e

  node_has : has left k ≡ true
  node_has = member_has left k (subst (Among (members left)) node_is (free_among (mask_into masks) (members left) (members left)))

  pub node_below : k < n
  node_below = has_below left n k below node_has

  -- as the code takes it out
  module _ (h : n ≤ node_room) (left' : ℕ) (is : left' ≡ bit_xor left (1 * 2 ^ k % 18446744073709551616)) where
    without_is : left' ≡ bit_xor left (2 ^ k)
    without_is = is ∙ ap (bit_xor left) (shifted k (omega (arith, node_below)))

    pub without_below : left' < 2 ^ n
    without_below = rw without_is (xor_lt n left (2 ^ k) below (pow-lt node_below))

    pub without_members : without k (members left) ≡ members left'
    without_members = members_without left k node_has ∙ ap members (sym without_is)

-- THE ORDER: that of the nodes left, written behind what stands there, gives the whole

-- the answer for an order that is written from the place len on
abbrev pub placed : ℕ → List ℕ → Option (List ℕ) → Code.Option (List ℕ)
placed len order none = None
placed len order (some o) = Some (take len order ++ (o ++ drop (len + length o) order))

pub record Going (masks : List ℕ) (n left : ℕ) (order : List ℕ) (len : ℕ) : Type 0 where
  pub within : len ≤ n
  pub below : left < 2 ^ n
  pub held : length order ≡ node_room
  pub same : as_sorting (order_for n (mask_into masks)) ≡ placed len order (order_of (mask_into masks) (n - len) (members left))

blank : (n m : ℕ) → replicate {A = ℕ} (m - n) 0 ≡ drop n (replicate m 0)
blank zero m = ap (λ k. replicate k 0) (sub-zero m)
  where
    sub-zero : (m : ℕ) → m - 0 ≡ m
    sub-zero m = omega arith
blank (suc n) zero = ap (λ k. replicate k 0) (zero-sub n)
  where
    zero-sub : (n : ℕ) → 0 - suc n ≡ 0
    zero-sub n = omega arith
blank (suc n) (suc m) = ap (λ k. replicate k 0) (less n m) ∙ blank n m
  where
    less : (n m : ℕ) → suc m - suc n ≡ m - n
    less n m = omega arith

-- one node more
placed_more : (order : List ℕ) (len k : ℕ) → len < length order → (x : Option (List ℕ)) → placed len order (then k x) ≡ placed (len + 1) (set order len k) x
placed_more order len k h none = refl
placed_more order len k h (some o) =
    ap Some (sym (front ∙ append_snoc (take len order) k (o ++ drop (len + length (k ∷ o)) order)))
  where
    z : len + 1 + length o ≡ len + length (k ∷ o)
    z = omega arith

    back : drop (len + 1 + length o) (set order len k) ≡ drop (len + length (k ∷ o)) order
    back = drop-set-lt (len + 1 + length o) order len k (omega arith) ∙ ap (λ m. drop m order) z

    front : take (len + 1) (set order len k) ++ (o ++ drop (len + 1 + length o) (set order len k))
        ≡ take len order ++ (k ∷ []) ++ (o ++ drop (len + length (k ∷ o)) order)
    front = ap₂ (λ a b. a ++ (o ++ b)) (ap (λ m. take m (set order len k)) (add-one len) ∙ take-suc-set order len k h) back

module _ (masks : List ℕ) (n : ℕ) where
  pub going_start : (left : ℕ) → n ≤ node_room → left ≡ 2 ^ n - 1 → Going masks n left (replicate node_room 0) 0
  unfolding order_for
  going_start left h e =
      let p : 0 < 2 ^ n = pow_pos n in
      let z : n - 0 ≡ n = omega arith in
      record {
        within = omega arith;
        below = omega arith;
        held = refl;
        same = go (order_for n (mask_into masks))
            ∙ ap₂ (λ m l. placed 0 (replicate node_room 0) (order_of (mask_into masks) m l)) (sym z) (sym (ap members e ∙ members_full n h));
      }
    where
      go : (x : Option (List ℕ)) → as_sorting x ≡ placed 0 (replicate node_room 0) x
      go none = refl
      go (some o) =
          let z : length o ≡ 0 + length o = omega arith in
          ap (λ r. Some (o ++ r)) (blank (length o) node_room ∙ ap (λ m. drop m (replicate node_room 0)) z)

  module _ (left : ℕ) (order : List ℕ) (len : ℕ) (s : Going masks n left order len) where
    -- the order from what the search finds, and the whole where nodes are left
    abbrev onward : Option ℕ → Option (List ℕ)
    onward f = first f (λ k. order_of (mask_into masks) (n - (len + 1)) (without k (members left)))

    one_left : len < n → as_sorting (order_for n (mask_into masks)) ≡ placed len order (onward (free_of masks left))
    unfolding order_of
    one_left l =
        let z : n - len ≡ suc (n - (len + 1)) = omega arith in
        s.same ∙ ap (λ m. placed len order (order_of (mask_into masks) m (members left))) z

    pub going_stuck : (p : Code.Option ℕ) → len < n → p ≡ as_free (free_of masks left) → p ≡ None → None ≡ as_sorting (order_for n (mask_into masks))
    going_stuck p l e t = sym (one_left l ∙ ap (λ f. placed len order (onward f)) (answered (free_of masks left) p e ∙ ap node_of t))

    -- a node was found
    module _ (k : ℕ) (e : Some k ≡ as_free (free_of masks left)) (h : n ≤ node_room) where
      in_order : k < n
      in_order = node_below masks left n s.below k e

      pub going_shifts : k < width
      going_shifts = omega (arith, in_order)

      pub going_fits : Fits w8 k
      going_fits = omega (arith, in_order)

      pub going_next : len < n → (left' : ℕ) (order' : List ℕ) (len' : ℕ)
          → left' ≡ bit_xor left (1 * 2 ^ k % 18446744073709551616) → order' ≡ set order len k → len' ≡ len + 1 → Going masks n left' order' len'
      going_next l left' order' len' x y z =
          let o : length order ≡ node_room = s.held in
          record {
            within = omega arith;
            below = without_below masks left n s.below k e h left' x;
            held = ap length y ∙ length-set order len k ∙ o;
            same = one_left l
                ∙ ap (λ f. placed len order (onward f)) (node_is masks left n s.below k e)
                ∙ placed_more order len k (omega arith) (order_of (mask_into masks) (n - (len + 1)) (without k (members left)))
                ∙ ap (λ l. placed (len + 1) (set order len k) (order_of (mask_into masks) (n - (len + 1)) l))
                (without_members masks left n s.below k e h left' x)
                ∙ ap₂ (λ m r. placed m r (order_of (mask_into masks) (n - m) (members left'))) (sym z) (sym y);
          }

    pub going_end : n ≤ len → Some order ≡ as_sorting (order_for n (mask_into masks))
    unfolding order_of
    going_end h =
        let z : n - len ≡ 0 = omega arith in
        let y : len + 0 ≡ len = omega arith in
        sym (s.same ∙ ap (λ m. placed len order (order_of (mask_into masks) m (members left))) z
        ∙ ap (λ m. Some (take len order ++ drop m order)) y
        ∙ ap Some (take-append-drop len order))

pub ruleset going = (going_start, going_stuck, going_shifts, going_fits, going_next, going_end)
