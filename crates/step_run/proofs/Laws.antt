-- Laws of the step's functions: the mark set, and the run over the nodes.
use Prim.Native.Nat.{ℕ, suc, ◌+◌, ◌-◌, ◌/◌, ◌%◌, ◌≤◌, ◌<◌, min}
use mathlib.Core.Path.{◌≡◌, refl, sym, ap, ap₂, ◌∙◌}
use mathlib.Core.Bool.{Bool, true, false, cond, ◌||◌}
use mathlib.Core.List.{List, [], ◌∷◌}
use native.Mathlib.Omega.{arith}
use native.Mathlib.Numerals.{add-one}
use lib.Dec.{eqb}
use lib.ListN.{length, length-take, drop_of_length-le, get_or, take, drop, set}
use lib.Seq.{drop-cons, get_or-take, set_out}
use Rattle.std.specs.List.{list_any}
use Rattle.meaning.specs.Text.{any}
use Rattle.meaning.specs.Step.{rising}
use Rattle.limits.specs.Sizes.{node_room}
use Rattle.marks.specs.Codes.{mark_code}
use Rattle.graph_tests.specs.declared.Test.{Test}
use Rattle.step_plan.specs.declared.Plan.{Plan}
use Rattle.step_test.specs.declared.Moment.{Moment}
use Rattle.step_run.specs.Run.{set_mark, start_of, rows_at, node_met, run_from, run_over}

-- a test of some member, as the library has it
pub any_same : {A : Type 0} (p : A → Bool) (xs : List A) → any p xs ≡ list_any p xs
unfolding any
any_same p [] = refl
any_same p (x ∷ xs) = ap (λ b. p x || b) (any_same p xs)

-- a mark behind the last is not set
pub mark_out : (after : List ℕ) (k x : ℕ) → x ≡ k / 2 → length after ≤ x → after ≡ set_mark true k after
unfolding set_mark
mark_out after k x e h = sym (set_out after (k / 2) _ (omega arith))

pub mark_in : (after : List ℕ) (k x v : ℕ) → x ≡ k / 2 → v ≡ cond (eqb (k % 2) 0) 2 0 → set after x v ≡ set_mark true k after
unfolding set_mark rising
mark_in after k x v e g = rw (e, g) (marked (eqb (k % 2) 0))
  where
    marked : (b : Bool) → set after (k / 2) (cond b 2 0) ≡ set after (k / 2) (mark_code b)
    marked true = refl
    marked false = refl

-- nor that of a node of which no test is met
pub mark_none : (k : ℕ) (after : List ℕ) → after ≡ set_mark false k after
unfolding set_mark
mark_none k after = refl

module _ (ws : List ℕ) (m : Moment) (p : Plan) where
  -- the nodes that are asked for
  abbrev Nodes : List ℕ
  Nodes = take p.nodes p.order

  -- the loop over the nodes: what is still to come
  pub record Running (after : List ℕ) (start i : ℕ) : Type 0 where
    pub full : length p.order ≡ node_room
    pub begun : start ≡ start_of p i
    pub same : run_from ws m p i (drop i Nodes) after ≡ run_over ws m p

  pub run_start : length p.order ≡ node_room → Running m.before 0 0
  unfolding run_over
  run_start l = record { full = l; begun = refl; same = refl }

  module _ (after : List ℕ) (start i : ℕ) (inv : Running after start i) where
    pub run_end : min p.nodes node_room ≤ i → after ≡ run_over ws m p
    unfolding run_from
    run_end h =
        let none : drop i Nodes ≡ [] = drop_of_length-le Nodes {i = i} (rw length-take (omega (arith, inv.full))) in
        sym (ap (λ o. run_from ws m p i o after) none) ∙ inv.same

    pub run_more : i < min p.nodes node_room → (e : ℕ) → e ≡ get_or p.ends i 0 → (r : List Test) → r ≡ take (e - start) (drop start p.rows)
        → (b : Bool) → b ≡ node_met ws m after (get_or p.order i 0) r → (a : List ℕ) → a ≡ set_mark b (get_or p.order i 0) after
        → Running a e (i + 1)
    unfolding run_from rows_at
    run_more h e ends r rows b is a set = rw add-one (record {
      full = inv.full;
      begun = ends;
      same =
          ap (run_from ws m p (suc i) (drop (suc i) Nodes))
          (set ∙ ap (λ c. set_mark c (get_or p.order i 0) after) (is ∙ ap (node_met ws m after (get_or p.order i 0)) (rows ∙ these)))
          ∙ ap (λ o. run_from ws m p i o after) (sym next_node)
          ∙ inv.same;
    })
      where
        these : take (e - start) (drop start p.rows) ≡ take (get_or p.ends i 0 - start_of p i) (drop (start_of p i) p.rows)
        these = ap₂ (λ n s. take (n - s) (drop s p.rows)) ends inv.begun

        next_node : drop i Nodes ≡ get_or p.order i 0 ∷ drop (suc i) Nodes
        next_node = drop-cons Nodes i 0 (rw length-take (omega (arith, inv.full)))
            ∙ ap (λ x. x ∷ drop (suc i) Nodes) (get_or-take p.nodes p.order i 0 (omega arith))
