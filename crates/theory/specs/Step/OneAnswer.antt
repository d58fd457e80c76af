-- The step has one answer, over any list of tests whose graph has a testing order: what any such order leads to meets the rules, and no two sides do.
use Rattle.std.specs.Prelude.{◌≡◌, Bool, List, ℕ, ◌*◌, length}
use Rattle.std.proofs.Math.Path.{refl}
use Rattle.meaning.specs.Graph.{Acyclic, Inside, TestingOrder}
use Rattle.meaning.specs.Tests.{Test}
use Rattle.meaning.specs.Dependency.{predecessors}
use Rattle.meaning.specs.Step.{Moment, some_holds, Meets, leads_to}
use Rattle.theory.specs.Graphs.Orders.{order_exists, order_acyclic}
use Rattle.theory.specs.Step.HalfMade as Polar
use Rattle.theory.specs.Step.HalfMade.{run_length, order_stands}
use Rattle.theory.specs.Step.Tests.{gate, sees}

module _ (ts : List Test) (m : Moment) where
  -- two nodes for each status of the card
  abbrev nodes_of : ℕ
  nodes_of = length m.before * 2

  abbrev Orders : List ℕ → Type 0
  Orders o = TestingOrder nodes_of (predecessors ts) o

  -- what a testing order leads to meets the rules
  pub leads_meets : (o : List ℕ) → Orders o → Meets ts m (leads_to ts m o)
  unfolding leads_to
  leads_meets o t = record {
    long = run_length (λ c. some_holds m c ts) o m.before;
    exactly = order_stands m.before (λ c. some_holds m c ts) (gate ts m) (length m.before) refl (predecessors ts) (sees ts m) o t;
  }

  -- no two sides meet the rules
  module _ (inside : Inside nodes_of (predecessors ts)) where
    pub one_side : (o : List ℕ) → Orders o → (c d : List Bool) → Meets ts m c → Meets ts m d → c ≡ d
    one_side o t c d mc md =
        Polar.one_side m.before (λ c. some_holds m c ts) (gate ts m) (length m.before) refl (predecessors ts) (sees ts m) inside
        (order_acyclic nodes_of (predecessors ts) inside o t) c d mc.long md.long mc.exactly md.exactly

    -- all testing orders lead to the same side
    pub any_order : (o₁ o₂ : List ℕ) → Orders o₁ → Orders o₂ → leads_to ts m o₁ ≡ leads_to ts m o₂
    any_order o₁ o₂ t₁ t₂ = one_side o₁ t₁ (leads_to ts m o₁) (leads_to ts m o₂) (leads_meets o₁ t₁) (leads_meets o₂ t₂)

    -- on a graph without cycles there is one next card: some side meets the rules, no other does, and every testing order leads to it
    pub one_next : Acyclic (predecessors ts)
        → (side : List Bool) × Meets ts m side × ((c : List Bool) → Meets ts m c → c ≡ side) × ((o : List ℕ) → Orders o → leads_to ts m o ≡ side)
    one_next ac =
        let (o, t) = order_exists nodes_of (predecessors ts) ac in
        (leads_to ts m o, leads_meets o t, λ c h. one_side o t c (leads_to ts m o) h (leads_meets o t), λ p u. any_order p o u t)
