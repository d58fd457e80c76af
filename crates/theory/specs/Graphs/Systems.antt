-- Rule systems over a graph: what a node gets is read off its predecessors. One assignment meets the rules, and every testing order leads to it.
use Prim.Native.Nat.{ℕ, ◌<◌}
use Rattle.std.specs.Prelude.{◌≡◌, true, ◌≢◌}
use Rattle.std.proofs.Math.Path.{refl, sym}
use Rattle.std.proofs.Common.{◌∙◌, subst, subst₂, inl, inr, ⊎_elim}
use mathlib.Core.List.{List, [], ◌∷◌}
use Rattle.std.proofs.Math.Decide.{ℕ_discrete}
use Rattle.meaning.specs.Text.{In}
use Rattle.meaning.specs.Graph.{Into, edge, Acyclic, Inside, TestingOrder}
use Rattle.theory.specs.Graphs.Orders.{Sorted, sorted_from, order_every, order_only, order_exists, order_acyclic}

module _ {W : Type 0} where
  -- the first where the statement is true, else the second
  abbrev pick : {P : Type 0} → Dec P → W → W → W
  pick (yes p) v w = v
  pick (no q) v w = w

  -- the assignment a, with v at x
  pub put : (ℕ → W) → ℕ → W → ℕ → W
  put a x v i = pick (ℕ_discrete i x) v (a i)

  -- what is put at x stands there
  pub put_same : (a : ℕ → W) (x : ℕ) (v : W) (i : ℕ) → i ≡ x → put a x v i ≡ v
  unfolding put
  put_same a x v i e = go (ℕ_discrete i x)
    where
      go : (d : Dec (i ≡ x)) → pick d v (a i) ≡ v
      go (yes p) = refl
      go (no q) = absurd (q e)

  -- all else stays
  pub put_other : (a : ℕ → W) (x : ℕ) (v : W) (i : ℕ) → i ≢ x → put a x v i ≡ a i
  unfolding put
  put_other a x v i ne = go (ℕ_discrete i x)
    where
      go : (d : Dec (i ≡ x)) → pick d v (a i) ≡ a i
      go (yes p) = absurd (ne p)
      go (no q) = refl

  -- what a list of nodes leads to: each in turn is set to what it gets on the assignment made so far
  unfoldable pub run : ((ℕ → W) → ℕ → W) → List ℕ → (ℕ → W) → ℕ → W
  run next [] a = a
  run next (x ∷ o) a = run next o (put a x (next a x))

  -- the assignment meets the rules at every node below n
  abbrev pub Meets : ℕ → ((ℕ → W) → ℕ → W) → (ℕ → W) → Type 0
  Meets n next a = (i : ℕ) → i < n → a i ≡ next a i

  -- what a node gets is read off its predecessors
  abbrev pub Reads : Into → ((ℕ → W) → ℕ → W) → Type 0
  Reads into next = (i : ℕ) (a b : ℕ → W) → ((p : ℕ) → edge into p i ≡ true → a p ≡ b p) → next a i ≡ next b i

  -- a node that isn't named keeps its value
  pub run_other : (next : (ℕ → W) → ℕ → W) (o : List ℕ) (a : ℕ → W) (i : ℕ) → (In i o → ⊥) → run next o a i ≡ a i
  unfolding run
  run_other next [] a i out = refl
  run_other next (x ∷ o) a i out = run_other next o (put a x (next a x)) i (λ m. out (inr m)) ∙ put_other a x (next a x) i (λ e. out (inl e))

module _ {W : Type 0} (into : Into) (next : (ℕ → W) → ℕ → W) (reads : Reads into next) where
  -- what the first node of a sorted list gets at the start is what it gets at the end
  run_head : (x : ℕ) (o : List ℕ) → Sorted into (x ∷ o) → (a : ℕ → W) → next a x ≡ next (run next (x ∷ o) a) x
  unfolding run
  run_head x o so a = reads x a (run next o a') (λ p h. sym (kept p h))
    where
      a' : ℕ → W
      a' = put a x (next a x)

      kept : (p : ℕ) → edge into p x ≡ true → run next o a' p ≡ a p
      kept p h = run_other next o a' p (λ m. so.0 p (inr m) h) ∙ put_other a x (next a x) p (λ f. so.0 p (inl f) h)

  -- a sorted list leads to an assignment that meets the rules at its nodes
  run_meets : (o : List ℕ) → Sorted into o → (a : ℕ → W) (i : ℕ) → In i o → run next o a i ≡ next (run next o a) i
  unfolding run
  run_meets [] so a i m = absurd m
  run_meets (x ∷ o) so a i (inr m) = run_meets o so.2 (put a x (next a x)) i m
  run_meets (x ∷ o) so a i (inl e) = rw e (run_other next o (put a x (next a x)) x so.1 ∙ put_same a x (next a x) x refl ∙ run_head x o so a)

  -- a testing order leads to an assignment that meets the rules, whatever it starts with
  pub order_meets : (n : ℕ) (o : List ℕ) → TestingOrder n into o → (a : ℕ → W) → Meets n next (run next o a)
  order_meets n o t a i h = run_meets o (sorted_from n into o t) a i (order_every n into o t i h)

-- Two rule systems on one graph, whose values at a node are related where those at its predecessors are: what meets the one is related to what meets the other.
module _ {W₁ W₂ : Type 0} (into : Into) (R : ℕ → W₁ → W₂ → Type 0)
    (next₁ : (ℕ → W₁) → ℕ → W₁) (next₂ : (ℕ → W₂) → ℕ → W₂)
    (kept : (i : ℕ) (a : ℕ → W₁) (b : ℕ → W₂) → ((p : ℕ) → edge into p i ≡ true → R p (a p) (b p)) → R i (next₁ a i) (next₂ b i)) where
  -- the same at the nodes of a sorted list, where the predecessors outside it are related
  related_on : (o : List ℕ) → Sorted into o → (a : ℕ → W₁) (b : ℕ → W₂)
      → ((i : ℕ) → In i o → a i ≡ next₁ a i) → ((i : ℕ) → In i o → b i ≡ next₂ b i)
      → ((p i : ℕ) → In i o → edge into p i ≡ true → (In p o → ⊥) → R p (a p) (b p))
      → (i : ℕ) → In i o → R i (a i) (b i)
  related_on [] so a b ma mb out i m = absurd m
  related_on (x ∷ o) so a b ma mb out i m = at (related_on o so.2 a b (λ j k. ma j (inr k)) (λ j k. mb j (inr k)) out' i) m
    where
      ex : R x (a x) (b x)
      ex = subst₂ (R x) (sym (ma x (inl refl))) (sym (mb x (inl refl))) (kept x a b (λ p h. out p x (inl refl) h (λ m. so.0 p m h)))

      out' : (p j : ℕ) → In j o → edge into p j ≡ true → (In p o → ⊥) → R p (a p) (b p)
      out' p j mj h np = go (ℕ_discrete p x)
        where
          go : Dec (p ≡ x) → R p (a p) (b p)
          go (yes e) = subst (λ w. R w (a w) (b w)) (sym e) ex
          go (no q) = out p j (inr mj) h (⊎_elim (λ (f : p ≡ x). q f) np)

      at : (In i o → R i (a i) (b i)) → In i (x ∷ o) → R i (a i) (b i)
      at rest (inl e) = subst (λ w. R w (a w) (b w)) (sym e) ex
      at rest (inr k) = rest k

  -- with equality for the relation this says that one assignment meets the rules; with an order of information, that it grows with what is known
  pub related : (n : ℕ) → Inside n into → Acyclic into → (a : ℕ → W₁) (b : ℕ → W₂) → Meets n next₁ a → Meets n next₂ b → (i : ℕ) → i < n → R i (a i) (b i)
  related n inside ac a b ma mb i h = go (order_exists n into ac)
    where
      go : (o : List ℕ) × TestingOrder n into o → R i (a i) (b i)
      go (o, t) =
          related_on o (sorted_from n into o t) a b (λ j k. ma j (order_only n into o t j k)) (λ j k. mb j (order_only n into o t j k))
          (λ p j k e out. absurd (out (order_every n into o t p (inside p j e).0))) i (order_every n into o t i h)

-- a rule system on a graph without cycles has exactly one assignment that meets it, and every testing order leads there
module _ {W : Type 0} (n : ℕ) (into : Into) (inside : Inside n into) (next : (ℕ → W) → ℕ → W) (reads : Reads into next) where
  -- no two assignments meet the rules
  pub unique : Acyclic into → (a b : ℕ → W) → Meets n next a → Meets n next b → (i : ℕ) → i < n → a i ≡ b i
  unique = related into (λ (i : ℕ) (v w : W). v ≡ w) next next reads n inside

  -- all testing orders lead to the same, whatever they start with
  pub orders_agree : (o₁ o₂ : List ℕ) → TestingOrder n into o₁ → TestingOrder n into o₂ → (a₁ a₂ : ℕ → W) → (i : ℕ) → i < n
      → run next o₁ a₁ i ≡ run next o₂ a₂ i
  orders_agree o₁ o₂ t₁ t₂ a₁ a₂ =
      unique (order_acyclic n into inside o₁ t₁) (run next o₁ a₁) (run next o₂ a₂) (order_meets into next reads n o₁ t₁ a₁)
      (order_meets into next reads n o₂ t₂ a₂)

  -- some assignment meets the rules
  pub exists : Acyclic into → (ℕ → W) → (a : ℕ → W) × Meets n next a
  exists ac a = let (o, t) = order_exists n into ac in (run next o a, order_meets into next reads n o t a)
