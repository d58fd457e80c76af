-- The circle that is told, of any graph: it has few nodes, all of the graph, and where no testing order is taken it is a circle.
use Prim.Native.Nat.{ℕ, zero, suc, ◌+◌, ◌≤◌, ◌<◌}
use Rattle.std.specs.Prelude.{◌≡◌, Bool}
use Rattle.std.proofs.Math.Path.{refl, subst}
use Rattle.std.proofs.Common.{sym, ◌∙◌, ap, inl, inr}
use Rattle.std.proofs.Math.Bool.{true, false, true≢false, cond}
use mathlib.Core.List.{List, [], ◌∷◌}
use Rattle.std.proofs.Math.Option.{Option, none, some}
use Rattle.std.proofs.Math.Logic.{⊎_elim}
use native.Mathlib.Omega.{arith}
use Rattle.std.proofs.Math.Dec.{eqb}
use Rattle.std.proofs.Math.ListN.{length}
use borrow.Author.Tests.{eqb-true, eqb-false}
use Rattle.meaning.specs.Text.{In, is_in, from}
use Rattle.meaning.specs.Graph.{Into, edge, Path, one, more, Cycle, waits, first_free, without, then, first, order_of, order_for}
use Rattle.meaning.specs.Circle.{Edge, along, around, IsCircle, left_by, stuck, lowest_into, up_to, came_to, go_back, circle_in, circle_for}
use Rattle.theory.specs.Lists.Members.{is_in_lem, in_is, common, without_in, Once, once_without, length_without, from_in, from_once, from_length, once_places, few_below}
use Rattle.theory.specs.Graphs.Orders.{path_joined, Found, found}

-- THE EDGES AROUND SOME NODES

along_few : (f k : ℕ) (ks : List ℕ) → length (along f k ks) ≡ suc (length ks)
unfolding along
along_few f k [] = refl
along_few f k (j ∷ js) = ap suc (along_few f j js)

-- as many as there are nodes
pub around_few : (c : List ℕ) → length (around c) ≡ length c
unfolding around
around_few [] = refl
around_few (k ∷ ks) = along_few k k ks

along_in : (f k : ℕ) (ks : List ℕ) (e : Edge) → In e (along f k ks) → In e.from (k ∷ ks) × In e.to (f ∷ ks)
unfolding along
along_in f k [] e (inl q) = (inl (ap (λ (w : Edge). w.from) q), inl (ap (λ (w : Edge). w.to) q))
along_in f k [] e (inr i) = absurd i
along_in f k (j ∷ js) e (inl q) = (inl (ap (λ (w : Edge). w.from) q), inr (inl (ap (λ (w : Edge). w.to) q)))
along_in f k (j ∷ js) e (inr i) = let (a, b) = along_in f j js e i in (inr a, ⊎_elim (λ q. inl q) (λ m. inr (inr m)) b)

-- each from one of the nodes to one of them
pub around_in : (c : List ℕ) (e : Edge) → In e (around c) → In e.from c × In e.to c
unfolding around
around_in [] e i = absurd i
around_in (k ∷ ks) e i = along_in k k ks e i

-- THOSE THAT STAND BEFORE ONE

up_to_in : (p x : ℕ) (ks : List ℕ) → In x (up_to p ks) → In x ks
unfolding up_to
up_to_in p x [] i = i
up_to_in p x (k ∷ ks) i = go (eqb k p) i (up_to_in p x ks)
  where
    go : (b : Bool) → In x (cond b [] (k ∷ up_to p ks)) → (In x (up_to p ks) → In x ks) → In x (k ∷ ks)
    go true i h = absurd i
    go false (inl e) h = inl e
    go false (inr i) h = inr (h i)

up_to_few : (p : ℕ) (ks : List ℕ) → is_in p ks ≡ true → length (up_to p ks) < length ks
unfolding up_to
up_to_few p [] t = absurd (is_in_lem p [] t)
up_to_few p (k ∷ ks) t = go (eqb k p) refl (is_in_lem p (k ∷ ks) t) (up_to_few p ks)
  where
    go : (b : Bool) → eqb k p ≡ b → In p (k ∷ ks) → (is_in p ks ≡ true → length (up_to p ks) < length ks)
        → length {A = ℕ} (cond b [] (k ∷ up_to p ks)) < suc (length ks)
    go true e i h = omega arith
    go false e (inl q) h = absurd (eqb-false k p e (sym q))
    go false e (inr i) h = let z = h (in_is p ks i) in omega arith

-- all members of a list are of those that are left
abbrev pub Of : List ℕ → List ℕ → Type 0
Of left c = (x : ℕ) → In x c → In x left

-- THE LOWEST FROM WHICH AN EDGE LEADS HERE

module _ (into : Into) where
  -- what is found among the nodes ps: no edge leads from them to k, or one from this node
  abbrev pub Lowest : List ℕ → ℕ → Option ℕ → Type 0
  Lowest ps k none = (p : ℕ) → In p ps → edge into p k ≡ false
  Lowest ps k (some p) = In p ps × (edge into p k ≡ true)

  pub lowest : (ps : List ℕ) (k : ℕ) → Lowest ps k (lowest_into into ps k)
  unfolding lowest_into
  lowest [] k = λ p i. absurd i
  lowest (x ∷ ps) k = go (edge into x k) refl (lowest_into into ps k) (lowest ps k)
    where
      go : (b : Bool) → edge into x k ≡ b → (o : Option ℕ) → Lowest ps k o → Lowest (x ∷ ps) k (cond b (some x) o)
      go true e o h = (inl refl, e)
      go false e none h = λ p i. ⊎_elim (λ q. rw q e) (h p) i
      go false e (some p) h = (inr h.0, h.1)

  -- GOING BACK, and what holds of it: Inv of the turns that are left, the node and the trail behind it, P of what comes of it
  module _ (left : List ℕ) (P : List ℕ → Type 0) (Inv : ℕ → ℕ → List ℕ → Type 0)
      (out : (k : ℕ) (trail : List ℕ) → Inv 0 k trail → P [])
      (ends : (m k : ℕ) (trail : List ℕ) → Inv (suc m) k trail → ((p : ℕ) → In p left → edge into p k ≡ false) → P [])
      (again : (m k : ℕ) (trail : List ℕ) → Inv (suc m) k trail → (p : ℕ) → In p left → edge into p k ≡ true
      → is_in p (k ∷ trail) ≡ true → P (p ∷ up_to p (k ∷ trail)))
      (onward : (m k : ℕ) (trail : List ℕ) → Inv (suc m) k trail → (p : ℕ) → In p left → edge into p k ≡ true
      → is_in p (k ∷ trail) ≡ false → Inv m p (k ∷ trail)) where
    back : (m k : ℕ) (trail : List ℕ) → Inv m k trail → P (go_back into left m k trail)
    unfolding go_back
    back zero k trail v = out k trail v
    back (suc m) k trail v = go (λ p. back m p (k ∷ trail)) (lowest_into into left k) (lowest left k)
      where
        Further : Type 0
        Further = (p : ℕ) → Inv m p (k ∷ trail) → P (go_back into left m p (k ∷ trail))

        met : Further → (p : ℕ) → In p left → edge into p k ≡ true → (b : Bool) → is_in p (k ∷ trail) ≡ b
            → P (cond b (p ∷ up_to p (k ∷ trail)) (go_back into left m p (k ∷ trail)))
        met ih p i e true t = again m k trail v p i e t
        met ih p i e false t = ih p (onward m k trail v p i e t)

        go : Further → (o : Option ℕ) → Lowest left k o → P (came_to (k ∷ trail) (λ p. go_back into left m p (k ∷ trail)) o)
        go ih none h = ends m k trail v h
        go ih (some p) h = met ih p h.0 h.1 (is_in p (k ∷ trail)) refl

  -- those left when no further one is free are of those that were left
  pub stuck_in : (m : ℕ) (left : List ℕ) → Of left (stuck into m left)
  unfolding stuck
  stuck_in zero left x i = i
  stuck_in (suc m) left x i = go (λ k. stuck_in m (without k left) x) (first_free into left left) i
    where
      go : ((k : ℕ) → In x (stuck into m (without k left)) → In x (without k left)) → (o : Option ℕ)
          → In x (left_by left (λ k. stuck into m (without k left)) o) → In x left
      go ih none j = j
      go ih (some k) j = (without_in x k left (ih k j)).0

  -- no more than the turns
  back_few : (left : List ℕ) (n m k : ℕ) (trail : List ℕ) → length trail + m ≤ n → length (go_back into left m k trail) ≤ n
  back_few left n = back left (λ c. length c ≤ n) (λ m k trail. length trail + m ≤ n) (λ k trail v. omega arith) (λ m k trail v f. omega arith)
      (λ m k trail v p i e t. omega (arith, up_to_few p (k ∷ trail) t)) (λ m k trail v p i e t. omega arith)

  -- of those that are left
  back_of : (left : List ℕ) (m k : ℕ) (trail : List ℕ) → Of left (k ∷ trail) → Of left (go_back into left m k trail)
  back_of left = back left (Of left) (λ m k trail. Of left (k ∷ trail)) (λ k trail v x i. absurd i) (λ m k trail v f x i. absurd i)
      (λ m k trail v p j e t x i. ⊎_elim (λ q. subst (λ w. In w left) (sym q) j) (λ h. v x (up_to_in p x (k ∷ trail) h)) i)
      (λ m k trail v p j e t x i. ⊎_elim (λ q. subst (λ w. In w left) (sym q) j) (v x) i)

-- the circle has no more nodes than the graph
pub circle_few : (n : ℕ) (into : Into) → length (circle_for n into) ≤ n
unfolding circle_for
circle_few n into = go (stuck into n (from 0 n))
  where
    go : (left : List ℕ) → length (circle_in into n left) ≤ n
    go [] = omega arith
    go (k ∷ ks) = back_few into (k ∷ ks) n n k [] (omega arith)

-- and they are nodes of the graph
pub circle_below : (n : ℕ) (into : Into) (k : ℕ) → In k (circle_for n into) → k < n
unfolding circle_for
circle_below n into k i = let h = (from_in n 0 k (stuck_in into n (from 0 n) k (go (stuck into n (from 0 n)) i))).1 in omega arith
  where
    go : (left : List ℕ) → In k (circle_in into n left) → In k left
    go [] j = j
    go (x ∷ ks) j = back_of into (x ∷ ks) n x [] (λ y h. ⊎_elim (λ q. inl q) absurd h) k j

-- A CIRCLE IS A PATH FROM EACH OF ITS NODES TO ITSELF

module _ (into : Into) where
  -- all of them are edges of the graph
  abbrev Edges : List Edge → Type 0
  Edges es = (e : Edge) → In e es → edge into e.from e.to ≡ true

  -- along some nodes and then to f
  pub along_path : (f k : ℕ) (ks : List ℕ) → Edges (along f k ks) → Path into k f
  unfolding along
  along_path f k [] h = one (h (record { from = k; to = f }) (inl refl))
  along_path f k (j ∷ js) h = more (h (record { from = k; to = j }) (inl refl)) (along_path f j js (λ e i. h e (inr i)))

  -- over each of them
  along_both : (f k : ℕ) (ks : List ℕ) → Edges (along f k ks) → (x : ℕ) → In x ks → Path into k x × Path into x f
  unfolding along
  along_both f k [] h x i = absurd i
  along_both f k (j ∷ js) h x (inl q) =
      let e = h (record { from = k; to = j }) (inl refl) in
      (rw q (one e), rw q (along_path f j js (λ e i. h e (inr i))))
  along_both f k (j ∷ js) h x (inr i) =
      let (a, b) = along_both f j js (λ e i. h e (inr i)) x i in
      (more (h (record { from = k; to = j }) (inl refl)) a, b)

  -- around a circle
  pub circle_path : (c : List ℕ) → IsCircle into c → (k : ℕ) → In k c → Path into k k
  unfolding around
  circle_path [] h k i = absurd i
  circle_path (f ∷ ks) h k (inl q) = rw q (along_path f f ks h.edges)
  circle_path (f ∷ ks) h k (inr i) = let (a, b) = along_both f f ks h.edges k i in path_joined into k f k b a

  -- so the graph has a cycle
  pub circle_cycle : (c : List ℕ) → IsCircle into c → Cycle into
  circle_cycle [] h = absurd (omega (arith, h.there))
  circle_cycle (f ∷ ks) h = (f, circle_path (f ∷ ks) h f (inl refl))

  -- THE CIRCLE THAT IS TOLD IS ONE

  -- what stays when no further one is free: some, and each of them waits
  record Stays (s : List ℕ) : Type 0 where
    there : 0 < length s
    waiting : (k : ℕ) → In k s → waits into s k ≡ true

  -- none stays where there is an order
  abbrev Rest : List ℕ → Option (List ℕ) → Type 0
  Rest s none = Stays s
  Rest s (some o) = s ≡ []

  -- that is what stays
  rest : (m : ℕ) (left : List ℕ) → length left ≡ m → Once left → Rest (stuck into m left) (order_of into m left)
  unfolding stuck order_of
  rest zero left len u = empty left len
    where
      empty : (l : List ℕ) → length l ≡ 0 → l ≡ []
      empty [] e = refl
      empty (x ∷ l) e = absurd (omega arith)
  rest (suc m) left len u = go (λ k i. rest m (without k left) (shorter k i) (once_without k left u)) (first_free into left left) (found into left left)
    where
      shorter : (k : ℕ) → In k left → length (without k left) ≡ m
      shorter k i = let h = length_without k left u i in omega arith

      others : (k : ℕ) (s : List ℕ) (r : Option (List ℕ)) → Rest s r → Rest s (then k r)
      others k s none h = h
      others k s (some o) h = h

      go : ((k : ℕ) → In k left → Rest (stuck into m (without k left)) (order_of into m (without k left))) → (f : Option ℕ) → Found into left left f
          → Rest (left_by left (λ k. stuck into m (without k left)) f) (first f (λ k. order_of into m (without k left)))
      go ih none w = record { there = omega arith; waiting = w }
      go ih (some k) w = others k (stuck into m (without k left)) (order_of into m (without k left)) (ih k w.0)

  -- of all nodes
  rest_all : (n : ℕ) → Rest (stuck into n (from 0 n)) (order_of into n (from 0 n))
  rest_all n = rest n (from 0 n) (from_length n 0) (from_once n 0)

  -- an edge leads from k to the first of the nodes, and from each of them to the next
  abbrev Leads : ℕ → List ℕ → Type 0
  Leads k [] = Unit {0}
  Leads k (j ∷ js) = (edge into k j ≡ true) × Leads j js

  -- up to f and then to it
  leads_around : (f k : ℕ) (ks : List ℕ) → Leads k ks → In f ks → Edges (along f k (up_to f ks))
  unfolding along up_to
  leads_around f k [] h i = absurd i
  leads_around f k (j ∷ js) h i = go (eqb j f) refl i (leads_around f j js h.1)
    where
      go : (b : Bool) → eqb j f ≡ b → In f (j ∷ js) → (In f js → Edges (along f j (up_to f js))) → Edges (along f k (cond b [] (j ∷ up_to f js)))
      go true q i ih e (inl z) = rw (z, ← eqb-true j f q) h.0
      go true q i ih e (inr z) = absurd z
      go false q (inl w) ih e z = absurd (eqb-false j f q (sym w))
      go false q (inr w) ih e (inl z) = rw z h.0
      go false q (inr w) ih e (inr z) = ih w e z

  -- those before p are not p
  up_to_once : (p : ℕ) (ks : List ℕ) → Once ks → Once (p ∷ up_to p ks)
  unfolding up_to
  up_to_once p [] u = (λ i. i, tt)
  up_to_once p (k ∷ ks) u = go (eqb k p) refl (up_to_once p ks u.1)
    where
      go : (b : Bool) → eqb k p ≡ b → Once (p ∷ up_to p ks) → Once {A = ℕ} (p ∷ cond b [] (k ∷ up_to p ks))
      go true e h = (λ i. i, tt)
      go false e h = (λ i. ⊎_elim (λ q. eqb-false k p e (sym q)) h.0 i, (λ i. u.0 (up_to_in p k ks i), h.1))

  -- the trail behind k, of n nodes and with m turns left
  record Trail (left : List ℕ) (n m k : ℕ) (trail : List ℕ) : Type 0 where
    once : Once (k ∷ trail)
    of_left : Of left (k ∷ trail)
    leads : Leads k trail
    turns : n ≤ length trail + m

  -- every trail ends in a circle
  trail_ends : (left : List ℕ) (n : ℕ) → ((x : ℕ) → In x left → x < n) → ((k : ℕ) → In k left → waits into left k ≡ true)
      → (m k : ℕ) (trail : List ℕ) → Trail left n m k trail → IsCircle into (go_back into left m k trail)
  unfolding waits around edge
  trail_ends left n low w = back into left (IsCircle into) (Trail left n)
      (λ k trail v. absurd (omega (arith, v.turns, few_below n (k ∷ trail) v.once (λ x i. low x (v.of_left x i)))))
      (λ m k trail v f. let (p, i, e) = common (into k) left (w k (v.of_left k (inl refl))) in absurd (true≢false (sym e ∙ f p i)))
      (λ m k trail v p i e t. record {
        there = omega arith;
        once = once_places (p ∷ up_to p (k ∷ trail)) (up_to_once p (k ∷ trail) v.once);
        edges = leads_around p p (k ∷ trail) (e, v.leads) (is_in_lem p (k ∷ trail) t);
      })
      (λ m k trail v p i e t. record {
        once = (λ j. true≢false (sym (in_is p (k ∷ trail) j) ∙ t), v.once);
        of_left = λ x j. ⊎_elim (λ q. subst (λ y. In y left) (sym q) i) (v.of_left x) j;
        leads = (e, v.leads);
        turns = omega (arith, v.turns);
      })

-- where no testing order is taken, the circle is one
pub circle_right : (n : ℕ) (into : Into) → order_for n into ≡ none → IsCircle into (circle_for n into)
unfolding circle_for order_for
circle_right n into e = go (stuck into n (from 0 n)) (stuck_in into n (from 0 n)) (subst (Rest into (stuck into n (from 0 n))) e (rest_all into n))
  where
    go : (left : List ℕ) → Of (from 0 n) left → Stays into left → IsCircle into (circle_in into n left)
    go [] h s = absurd (omega (arith, s.there))
    go (k ∷ ks) h s = trail_ends into (k ∷ ks) n (λ x i. let l = (from_in n 0 x (h x i)).1 in omega arith) s.waiting n k []
        (record { once = (λ i. i, tt); of_left = λ x i. ⊎_elim (λ q. inl q) absurd i; leads = tt; turns = omega arith })
