-- What a testing order leads to on the half_made side, for any test of nodes on sides that has its gate and reads its predecessors.
use Prim.Native.Nat.{ℕ, ◌*◌, ◌/◌, ◌<◌}
use Rattle.std.specs.Prelude.{◌≡◌, Bool, true, false, ◌&&◌, length}
use Rattle.std.proofs.Math.Path.{refl, ap}
use Rattle.std.proofs.Common.{sym, ◌∙◌, subst, inl, inr, arith, length-set, ext_get_or}
use mathlib.Core.List.{List, [], ◌∷◌}
use Rattle.meaning.specs.Text.{In}
use Rattle.meaning.specs.Graph.{Into, edge, Acyclic, Inside, TestingOrder}
use Rattle.meaning.specs.Tests.{up, down}
use Rattle.meaning.specs.Step.{rising, allowed, changes, set_if, run_on}
use Rattle.theory.specs.Graphs.Orders.{Sorted, sorted_from}
use Rattle.theory.specs.Graphs.Systems.{put, put_other, run, Meets, Reads, order_meets, unique}
use Rattle.theory.specs.Step.Sides.{same_status, side_of, side_none, side_changes, changes_side, changes_same, set_side}

-- a run keeps the length
pub run_length : (test : List Bool → ℕ → Bool) (o : List ℕ) (c : List Bool) → length (run_on test o c) ≡ length c
unfolding run_on set_if
run_length test [] c = refl
run_length test (k ∷ o) c = run_length test o (set_if (test c k) k c) ∙ turn (test c k)
  where
    turn : (b : Bool) → length (set_if b k c) ≡ length c
    turn true = length-set c (k / 2) (rising k)
    turn false = refl

-- A test of the nodes on a side, which holds only of a change that the before side allowed,
module _ (before : List Bool) (test : List Bool → ℕ → Bool) (gate : (c : List Bool) (k : ℕ) → test c k ≡ true → allowed before k ≡ true) where
  -- what a node gets on node values: its test, on their side
  abbrev pub next : (ℕ → Bool) → ℕ → Bool
  next f k = test (side_of before f) k

  -- the side half made is the side of the node values made so far
  pub half_made : (into : Into) (o : List ℕ) → Sorted into o → run_on test o before ≡ side_of before (run next o (λ k. false))
  unfolding run_on run
  half_made into o so = ap (run_on test o) (side_none before) ∙ from_values o so (λ k. false) (λ k m. refl)
    where
      from_values : (o : List ℕ) → Sorted into o → (f : ℕ → Bool) → ((k : ℕ) → In k o → f k ≡ false)
          → run_on test o (side_of before f) ≡ side_of before (run next o f)
      from_values [] so f new = refl
      from_values (k ∷ o) so f new =
          ap (run_on test o) (set_side before f k (next f k) (new k (inl refl)) (gate (side_of before f) k))
          ∙ from_values o so.2 (put f k (next f k)) (λ j m. put_other f k (next f k) j (λ e. so.1 (subst (λ w. In w o) e m)) ∙ new j (inr m))

  -- and which reads of a side only the changes at a node's predecessors, with two nodes for each of m statuses:
  module _ (m : ℕ) (long : length before ≡ m) (into : Into)
      (sees : (k : ℕ) (c d : List Bool) → ((p : ℕ) → edge into p k ≡ true → changes before c p ≡ changes before d p) → test c k ≡ test d k) where
    -- what a node gets on node values is read off its predecessors
    next_reads : Reads into next
    next_reads k f g h = sees k (side_of before f) (side_of before g) (λ p e. changes_same before f g p (h p e))

    -- a testing order leads to a side on which a status has changed exactly when the test of that change holds
    pub order_stands : (o : List ℕ) → TestingOrder (m * 2) into o
        → (k : ℕ) → k < m * 2 → changes before (run_on test o before) k ≡ test (run_on test o before) k
    order_stands o t k l = rw (half_made into o (sorted_from (m * 2) into o t)) (changes_side before f k (omega arith) ∙ gated (f k) refl ∙ meets)
      where
        f : ℕ → Bool
        f = run next o (λ j. false)

        meets : f k ≡ next f k
        meets = order_meets into next next_reads (m * 2) o t (λ j. false) k l

        gated : (b : Bool) → f k ≡ b → allowed before k && b ≡ b
        gated true e = rw (gate (side_of before f) k (sym meets ∙ e))
        gated false e = and_none (allowed before k)
          where
            and_none : (a : Bool) → a && false ≡ false
            and_none true = refl
            and_none false = refl

    -- there is one such side
    pub one_side : Inside (m * 2) into → Acyclic into → (c d : List Bool) → length c ≡ length before → length d ≡ length before
        → ((k : ℕ) → k < m * 2 → changes before c k ≡ test c k) → ((k : ℕ) → k < m * 2 → changes before d k ≡ test d k) → c ≡ d
    one_side inside ac c d lc ld sc sd =
        ext_get_or false c d (lc ∙ sym ld) (λ x h. same_status before c d x (same (up x) (omega arith)) (same (down x) (omega arith)))
      where
        meets : (c : List Bool) → length c ≡ length before → ((k : ℕ) → k < m * 2 → changes before c k ≡ test c k) → Meets (m * 2) next (changes before c)
        meets c l s k h = s k h ∙ ap (λ w. test w k) (side_changes before c l)

        same : (k : ℕ) → k < m * 2 → changes before c k ≡ changes before d k
        same = unique (m * 2) into inside next next_reads ac (changes before c) (changes before d) (meets c lc sc) (meets d ld sd)
