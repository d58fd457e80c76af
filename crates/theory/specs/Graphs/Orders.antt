-- Testing orders of any graph: the order that is taken is one, where none is taken there is a cycle, and no graph has both.
use Prim.Native.Nat.{ℕ, zero, suc, ◌<◌}
use Rattle.std.specs.Prelude.{◌≡◌, Bool, ◌↔◌, get_or}
use Rattle.std.proofs.Math.Path.{refl}
use Rattle.std.proofs.Common.{sym, subst}
use Rattle.std.proofs.Math.Bool.{true, false}
use mathlib.Core.List.{List, [], ◌∷◌}
use Rattle.std.proofs.Math.Option.{Option, none, some}
use Rattle.std.proofs.Math.Logic.{inl, inr, ⊎_elim}
use native.Mathlib.Omega.{arith}
use Rattle.std.proofs.Math.Decide.{ℕ_discrete}
use Rattle.std.proofs.Math.ListN.{length}
use Rattle.meaning.specs.Text.{In, from}
use Rattle.meaning.specs.Graph.{Into, edge, Path, one, more, Cycle, Acyclic, Inside, TestingOrder, waits, first_free, without, then, first, order_of, order_for}
use Rattle.theory.specs.Lists.Members.{is_in_lem, common, apart, in_without, without_in, Once, once_without, length_without, from_in, in_from, from_once, from_length, placed_at, at_place, once_places}

-- THE VIEW FROM THE FRONT

-- no node twice, and no edge from a node to itself or to an earlier one
abbrev pub Sorted : Into → List ℕ → Type 0
Sorted into [] = Unit {0}
Sorted into (x ∷ o) = ((y : ℕ) → In y (x ∷ o) → edge into y x ≡ true → ⊥) × (In x o → ⊥) × Sorted into o

-- a sorted list has no node twice
sorted_distinct : (into : Into) (o : List ℕ) → Sorted into o → Once o
sorted_distinct into [] s = tt
sorted_distinct into (x ∷ o) s = (s.1, sorted_distinct into o s.2)

-- in a sorted list each edge leads to a later place
sorted_later : (into : Into) (o : List ℕ) → Sorted into o → (i j : ℕ) → i < length o → j < length o → edge into (get_or o i 0) (get_or o j 0) ≡ true → i < j
sorted_later into [] s i j h g e = absurd (omega arith)
sorted_later into (x ∷ o) s i zero h g e = absurd (s.0 (get_or (x ∷ o) i 0) (at_place (x ∷ o) i h) e)
sorted_later into (x ∷ o) s zero (suc j) h g e = omega arith
sorted_later into (x ∷ o) s (suc i) (suc j) h g e = let l = sorted_later into o s.2 i j (omega arith) (omega arith) e in omega arith

-- a sorted list with exactly the nodes as members is a testing order
pub order_from : (n : ℕ) (into : Into) (o : List ℕ) → ((k : ℕ) → k < n → In k o) → ((k : ℕ) → In k o → k < n) → Sorted into o → TestingOrder n into o
order_from n into o every only s = record {
  every = λ k h. placed_at o k (every k h);
  only = λ i h. only (get_or o i 0) (at_place o i h);
  once = once_places o (sorted_distinct into o s);
  later = sorted_later into o s;
}

-- a list with each node at one place and each edge to a later one is sorted
places_sorted : (into : Into) (o : List ℕ) → ((i j : ℕ) → i < length o → j < length o → get_or o i 0 ≡ get_or o j 0 → i ≡ j)
    → ((i j : ℕ) → i < length o → j < length o → edge into (get_or o i 0) (get_or o j 0) ≡ true → i < j) → Sorted into o
places_sorted into [] once later = tt
places_sorted into (x ∷ o) once later = (
  λ y h e. let (i, l, q) = placed_at (x ∷ o) y h in let z : i < 0 = later i 0 l (omega arith) (rw q e) in omega arith,
  λ h. let (i, l, q) = placed_at o x h in let z : suc i ≡ 0 = once (suc i) 0 (omega arith) (omega arith) q in omega arith,
  places_sorted into o (λ i j h g e. let z : suc i ≡ suc j = once (suc i) (suc j) (omega arith) (omega arith) e in omega arith)
      (λ i j h g e. let z : suc i < suc j = later (suc i) (suc j) (omega arith) (omega arith) e in omega arith),
)

-- a testing order is sorted
pub sorted_from : (n : ℕ) (into : Into) (o : List ℕ) → TestingOrder n into o → Sorted into o
sorted_from n into o t = places_sorted into o t.once t.later

-- every node is a member of a testing order
pub order_every : (n : ℕ) (into : Into) (o : List ℕ) → TestingOrder n into o → (k : ℕ) → k < n → In k o
order_every n into o t k h = let (i, l, e) = t.every k h in rw (← e) (at_place o i l)

-- a member of a testing order is a node
pub order_only : (n : ℕ) (into : Into) (o : List ℕ) → TestingOrder n into o → (k : ℕ) → In k o → k < n
order_only n into o t k h = let (i, l, e) = placed_at o k h in rw (← e) (t.only i l)

-- THE ORDER THAT IS TAKEN

-- paths join
pub path_joined : (into : Into) (i j k : ℕ) → Path into i j → Path into j k → Path into i k
path_joined into i j k (one e) q = more e q
path_joined into i j k (more {j = m} e p) q = more e (path_joined into m j k p q)

module _ (into : Into) where
  -- a node of the list from which a path leads to b
  abbrev Pred : List ℕ → ℕ → Type 0
  Pred s b = (a : ℕ) × In a s × Path into a b

  -- where each node of a list has such a node, some path leads from a node to itself
  loop : (s : List ℕ) (x : ℕ) → In x s → ((b : ℕ) → In b s → Pred s b) → Cycle into
  loop [] x h f = absurd h
  loop (z ∷ s) x h f = at_head (λ p m g. loop s p m g) (f z (inl refl))
    where
      at_head : ((p : ℕ) → In p s → ((b : ℕ) → In b s → Pred s b) → Cycle into) → Pred (z ∷ s) z → Cycle into
      at_head rec (p, inl e, r) = (z, subst (λ w. Path into w z) e r)
      at_head rec (p, inr m, r) = rec p m (λ b hb. over b (f b (inr hb)))
        where
          over : (b : ℕ) → Pred (z ∷ s) b → Pred s b
          over b (a, inl e, q) = (p, m, path_joined into p z b r (subst (λ w. Path into w b) e q))
          over b (a, inr ma, q) = (a, ma, q)

  -- what is found when a free one of the nodes ks is looked for: each of them waits, or this one waits for none
  abbrev pub Found : List ℕ → List ℕ → Option ℕ → Type 0
  Found left ks none = (k : ℕ) → In k ks → waits into left k ≡ true
  Found left ks (some k) = In k ks × (waits into left k ≡ false)

  -- that is what is found
  pub found : (left ks : List ℕ) → Found left ks (first_free into left ks)
  unfolding first_free
  found left [] = λ k m. absurd m
  found left (x ∷ ks) = at (waits into left x) refl (first_free into left ks) (found left ks)
    where
      at : (b : Bool) → waits into left x ≡ b → (f : Option ℕ) → Found left ks f → Found left (x ∷ ks) (elim b [ true ↦ f | false ↦ some x ])
      at true w none h = λ k m. ⊎_elim (λ e. rw e w) (h k) m
      at true w (some k) h = (inr h.0, h.1)
      at false w f h = (inl refl, w)

  -- an order of what is left
  record Orders (left o : List ℕ) : Type 0 where
    every : (k : ℕ) → In k left → In k o
    only : (k : ℕ) → In k o → In k left
    sorted : Sorted into o

  -- a free node, and then an order of the others
  step : (left o : List ℕ) (k : ℕ) → In k left → waits into left k ≡ false → Orders (without k left) o → Orders left (k ∷ o)
  unfolding waits edge
  step left o k m w r = record {
    every = λ i h. at i h (ℕ_discrete i k);
    only = λ i h. back i h;
    sorted = (λ y h e. apart (into k) left w y (back y h) (is_in_lem y (into k) e), λ h. (without_in k k left (r.only k h)).1 refl, r.sorted);
  }
    where
      at : (i : ℕ) → In i left → Dec (i ≡ k) → In i (k ∷ o)
      at i h (yes e) = inl e
      at i h (no ne) = inr (r.every i (in_without i k left h ne))

      back : (i : ℕ) → In i (k ∷ o) → In i left
      back i (inl e) = subst (λ w. In w left) (sym e) m
      back i (inr h) = (without_in i k left (r.only i h)).0

  -- where each node that is left waits, there is a cycle
  stuck : (n : ℕ) (left : List ℕ) → length left ≡ suc n → ((k : ℕ) → In k left → waits into left k ≡ true) → Cycle into
  unfolding waits edge
  stuck n [] len w = absurd (omega arith)
  stuck n (x ∷ l) len w = loop (x ∷ l) x (inl refl) (λ k m. let (p, h, e) = common (into k) (x ∷ l) (w k m) in (p, h, one e))

  -- what comes of the nodes that are left: a cycle or an order
  abbrev Outcome : List ℕ → Option (List ℕ) → Type 0
  Outcome left none = Cycle into
  Outcome left (some o) = Orders left o

  -- that is what comes of them
  outcome : (n : ℕ) (left : List ℕ) → length left ≡ n → Once left → Outcome left (order_of into n left)
  unfolding order_of
  outcome zero left len u = record { every = λ k m. absurd (none_left left len k m); only = λ k m. absurd m; sorted = tt }
    where
      none_left : (l : List ℕ) → length l ≡ 0 → (k : ℕ) → In k l → ⊥
      none_left [] e k m = m
      none_left (x ∷ l) e k m = omega arith
  outcome (suc n) left len u = at (λ k m. outcome n (without k left) (shorter k m) (once_without k left u)) (first_free into left left) (found left left)
    where
      shorter : (k : ℕ) → In k left → length (without k left) ≡ n
      shorter k m = let h = length_without k left u m in omega arith

      rest : (k : ℕ) → In k left → waits into left k ≡ false → (r : Option (List ℕ)) → Outcome (without k left) r → Outcome left (then k r)
      rest k m w none c = c
      rest k m w (some t) r = step left t k m w r

      at : ((k : ℕ) → In k left → Outcome (without k left) (order_of into n (without k left)))
          → (f : Option ℕ) → Found left left f → Outcome left (first f (λ k. order_of into n (without k left)))
      at ih none h = stuck n left len h
      at ih (some k) h = rest k h.0 h.1 (order_of into n (without k left)) (ih k h.0)

-- the order that is taken is a testing order
pub testing : (n : ℕ) (into : Into) (o : List ℕ) → order_for n into ≡ some o → TestingOrder n into o
unfolding order_for
testing n into o e =
    let r : Orders into (from 0 n) o = subst (Outcome into (from 0 n)) e (outcome into n (from 0 n) (from_length n 0) (from_once n 0)) in
    order_from n into o (λ k h. r.every k (in_from n 0 k (omega arith) (omega arith))) (λ k h. let g = (from_in n 0 k (r.only k h)).1 in omega arith)
    r.sorted

-- where none is taken the graph has a cycle
pub order_none : (n : ℕ) (into : Into) → order_for n into ≡ none → Cycle into
unfolding order_for
order_none n into e = subst (Outcome into (from 0 n)) e (outcome into n (from 0 n) (from_length n 0) (from_once n 0))

-- a graph without cycles has a testing order
pub order_exists : (n : ℕ) (into : Into) → Acyclic into → (o : List ℕ) × TestingOrder n into o
order_exists n into ac = go (order_for n into) refl
  where
    go : (r : Option (List ℕ)) → order_for n into ≡ r → (o : List ℕ) × TestingOrder n into o
    go none e = let (k, p) = order_none n into e in absurd (ac k p)
    go (some o) e = (o, testing n into o e)

-- NOT BOTH

module _ (n : ℕ) (into : Into) (inside : Inside n into) where
  module _ (o : List ℕ) (t : TestingOrder n into o) where
    -- a path leads to a later place
    path_later : (x y a b : ℕ) → Path into x y → a < length o → b < length o → get_or o a 0 ≡ x → get_or o b 0 ≡ y → a < b
    path_later x y a b (one e) h g p q = t.later a b h g (rw (p, q) e)
    path_later x y a b (more {j = m} e r) h g p q =
        let (c, l, z) = t.every m (inside x m e).1 in
        let u : a < c = t.later a c h l (rw (p, z) e) in
        let v : c < b = path_later m y c b r l g z q in
        omega arith

    -- a path starts at a node
    starts_inside : (x y : ℕ) → Path into x y → x < n
    starts_inside x y (one e) = (inside x y e).0
    starts_inside x y (more {j = m} e r) = (inside x m e).0

  -- a testing order shuts out every path from a node to itself
  pub order_acyclic : (o : List ℕ) → TestingOrder n into o → Acyclic into
  order_acyclic o t k p =
      let (a, l, z) = t.every k (starts_inside o t k k p) in
      let u : a < a = path_later o t k k a a p l l z z in
      omega arith

  -- none is taken exactly where some path leads from a node to itself
  pub cycle_exactly : (order_for n into ≡ none) ↔ Cycle into
  cycle_exactly = (order_none n into, λ (k, p). found k p (order_for n into) refl)
    where
      found : (k : ℕ) → Path into k k → (r : Option (List ℕ)) → order_for n into ≡ r → order_for n into ≡ none
      found k p none e = e
      found k p (some o) e = absurd (order_acyclic o (testing n into o e) k p)
