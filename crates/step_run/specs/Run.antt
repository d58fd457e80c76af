-- The step on the plan of a sheet: marks of the statuses before and after, node after node.
use Rattle.std.specs.Prelude.{ℕ, zero, suc, ◌-◌, ◌/◌, Bool, true, false, not, ◌&&◌, cond, List, [], ◌∷◌, get_or, take, drop, set}
use Rattle.meaning.specs.Text.{any}
use Rattle.meaning.specs.Step.{rising}
use Rattle.marks.specs.Codes.{mark_code, yes_at}
use Rattle.graph_tests.specs.declared.Test.{Test}
use Rattle.step_plan.specs.declared.Plan.{Plan}
use Rattle.step_test.specs.declared.Moment.{Moment}
use Rattle.step_test.specs.Met.{test_met}

-- "a `+` rule: its status was no before; a `-` rule: it was yes before"
unfoldable pub may_change : List ℕ → ℕ → Bool
may_change before k = cond (rising k) (not (yes_at before (k / 2))) (yes_at before (k / 2))

-- the status of a node that is met is set at once
unfoldable pub set_mark : Bool → ℕ → List ℕ → List ℕ
set_mark true k after = set after (k / 2) (mark_code (rising k))
set_mark false k after = after

-- the tests of the node at a place of the order: between the end before and its own
abbrev pub start_of : Plan → ℕ → ℕ
start_of p zero = 0
start_of p (suc i) = get_or p.ends i 0

-- those rows
unfoldable pub rows_at : Plan → ℕ → List Test
rows_at p i = take (get_or p.ends i 0 - start_of p i) (drop (start_of p i) p.rows)

module _ (words : List ℕ) (m : Moment) where
  -- some of a node's tests holds
  unfoldable pub node_met : List ℕ → ℕ → List Test → Bool
  node_met after k rows = may_change m.before k && any (test_met words m after) rows

  -- node after node of the order, from place i on
  unfoldable pub run_from : Plan → ℕ → List ℕ → List ℕ → List ℕ
  run_from p i [] after = after
  run_from p i (k ∷ o) after = run_from p (suc i) o (set_mark (node_met after k (rows_at p i)) k after)

  -- "It starts with the before statuses"
  unfoldable pub run_over : Plan → List ℕ
  run_over p = run_from p 0 (take p.nodes p.order) m.before
