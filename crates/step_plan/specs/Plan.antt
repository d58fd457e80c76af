-- The tests listed by a testing order: those of its first node, in their order, then those of the next, and where each node's tests end.
use Rattle.std.specs.Prelude.{ℕ, ◌+◌, min, List, [], ◌∷◌, ◌++◌, length, take, replicate}
use Rattle.meaning.specs.Text.{joined}
use Rattle.theory.specs.Lists.Padded.{padded}
use Rattle.limits.specs.Sizes.{node_room, test_room}
use Rattle.graph_tests.specs.declared.Test.{Test}
use Rattle.graph_tests.specs.Table.{no_test, rows_for}
use Rattle.step_plan.specs.declared.Plan.{Plan}

-- the tests in the order of the nodes
unfoldable pub listed_by : List Test → List ℕ → List Test
listed_by rows o = joined (rows_for rows) o

-- where each node's tests end, behind n tests
unfoldable pub ends_from : ℕ → List Test → List ℕ → List ℕ
ends_from n rows [] = []
ends_from n rows (k ∷ o) = min test_room (n + length (rows_for rows k)) ∷ ends_from (min test_room (n + length (rows_for rows k))) rows o

-- the plan for the first nodes of an order; one that names nodes more than once may list more tests than there is room for: those behind are left out
unfoldable pub as_plan : List Test → List ℕ → ℕ → Plan
as_plan rows order nodes = record {
  rows = take test_room (listed_by rows (take nodes order) ++ replicate test_room no_test);
  ends = padded node_room 0 (ends_from 0 rows (take nodes order));
  order = order;
  nodes = nodes;
}

-- the plan for a list of nodes
abbrev pub plan_for : List Test → List ℕ → Plan
plan_for rows o = as_plan rows (padded node_room 0 o) (length o)
