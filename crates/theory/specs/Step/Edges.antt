-- The edges of tests that name statuses only lead from node to node.
use Rattle.std.specs.Prelude.{ℕ, ◌*◌, ◌<◌, ◌≡◌, refl, List, ◌++◌, eqb}
use Rattle.std.proofs.Math.Path.{subst}
use Rattle.std.proofs.Math.Option.{Option, none, some}
use Rattle.std.proofs.Common.{inl, inr, eq-eqb}
use Rattle.std.proofs.Math.Logic.{⊎_elim}
use native.Mathlib.Omega.{arith}
use Rattle.meaning.specs.Text.{In, joined}
use Rattle.meaning.specs.Condition.{Leaf}
use Rattle.meaning.specs.Sheet.{Trigger, always, event, rise, fall, leaves_of}
use Rattle.meaning.specs.Graph.{edge, Inside, Cycle, one, more}
use Rattle.meaning.specs.Tests.{down, both, Test}
use Rattle.meaning.specs.Dependency.{from_trigger, from_leaf, from_home, sources, tests_for, predecessors}
use Rattle.theory.specs.Lists.Members.{in_cases, in_right, in_keep, joined_in, is_in_lem}
use Rattle.theory.specs.Papers.Conditions.{LeafIn, LeavesIn}
use Rattle.theory.specs.Papers.Formed.{Each, UnderIn, TriggerIn}
use Rattle.theory.specs.Step.Tests.{test_of_lem, source_precedes}

-- a test over n statuses, m fields and v events
pub record TestIn (n m v : ℕ) (t : Test) : Type 0 where
  pub node : t.node < n * 2
  pub needs : UnderIn n t.needs
  pub trigger : TriggerIn n v t.trigger
  pub home : UnderIn n t.home
  pub leaves : LeavesIn n m (leaves_of t.condition)

module _ (n : ℕ) where
  -- the two nodes of a status
  both_in : (x p : ℕ) → x < n → In p (both x) → p < n * 2
  both_in x p h (inl e) = omega arith
  both_in x p h (inr (inl e)) = omega arith
  both_in x p h (inr (inr i)) = absurd i

  -- the node of a trigger
  trigger_node : (v : ℕ) (t : Trigger) (p : ℕ) → TriggerIn n v t → In p (from_trigger t) → p < n * 2
  unfolding from_trigger
  trigger_node v always p h i = absurd i
  trigger_node v (event e) p h i = absurd i
  trigger_node v (rise y) p h (inl e) = omega arith
  trigger_node v (rise y) p h (inr i) = absurd i
  trigger_node v (fall y) p h (inl e) = omega arith
  trigger_node v (fall y) p h (inr i) = absurd i

  -- the nodes of a leaf
  leaf_node : (m : ℕ) (x : Leaf) (p : ℕ) → LeafIn n m x → In p (from_leaf x) → p < n * 2
  unfolding from_leaf
  leaf_node m (Leaf.status y) p h i = both_in y p h i
  leaf_node m (Leaf.compare c) p h i = absurd i

  -- the nodes of a home
  home_node : (u : Option ℕ) (p : ℕ) → UnderIn n u → In p (from_home u) → p < n * 2
  unfolding from_home
  home_node none p h i = absurd i
  home_node (some q) p h i = both_in q p h i

  module _ (m v : ℕ) where
    -- where the edges of a test begin
    source_in : (t : Test) → TestIn n m v t → (p : ℕ) → In p (sources t) → p < n * 2
    unfolding sources
    source_in t h p i =
        let f = from_trigger t.trigger in
        let k = joined from_leaf (leaves_of t.condition) in
        ⊎_elim
        (λ j. ⊎_elim (trigger_node v t.trigger p h.trigger)
        (λ l. let (x, a, b) = joined_in from_leaf p (leaves_of t.condition) l in leaf_node m x p (h.leaves x a) b) (in_cases p f k j))
        (home_node t.home p h.home)
        (in_cases p (f ++ k) (from_home t.home) i)

    -- each edge leads from a node to a node
    pub edges_inside : (ts : List Test) → Each (TestIn n m v) ts → Inside (n * 2) (predecessors ts)
    unfolding edge predecessors
    edges_inside ts h p k e =
        let (t, i, j) = joined_in sources p (tests_for ts k) (is_in_lem p (predecessors ts k) e) in
        let (a, b) = test_of_lem ts k t i in
        (source_in t (h t a) p j, subst (λ w. w < n * 2) b (h t a).node)

-- "So a mile that has a `+` rule can't close its own home stage": its home's closing comes before it, and would come behind it
pub home_cycle : (ts : List Test) (p : ℕ) (t u : Test) → In t ts → In u ts → t.home ≡ some p → u.node ≡ down p → In t.node (sources u)
    → Cycle (predecessors ts)
unfolding tests_for sources from_home
home_cycle ts p t u i j h d s =
    (down p, more (source_precedes ts t.node t (mine t i) (down p) opens) (one (rw d at (source_precedes ts u.node u (mine u j) t.node s))))
  where
    -- a test is one of its node's
    mine : (t : Test) → In t ts → In t (tests_for ts t.node)
    mine t i = in_keep (λ (w : Test). eqb w.node t.node) t ts i (eq-eqb t.node t.node refl)

    opens : In (down p) (sources t)
    opens = in_right (down p) (from_trigger t.trigger ++ joined from_leaf (leaves_of t.condition)) (from_home t.home) (rw h (inr (inl refl)))
