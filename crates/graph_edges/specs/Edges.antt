-- The dependency graph of some tests, read off their rows and the words of their conditions.
use Rattle.std.specs.Prelude.{ℕ, zero, suc, ◌-◌, ◌/◌, ◌%◌, cond, ◌&&◌, List, [], ◌∷◌, ◌++◌, eqb, leb, ltb, take, drop}
use Rattle.meaning.specs.Text.{is_in, joined}
use Rattle.meaning.specs.Graph.{Into}
use Rattle.meaning.specs.Tests.{up, down, both}
use Rattle.sheet_tables.specs.declared.Trigger.{Trigger}
use Rattle.sheet_tables.specs.declared.Trigger.TheVariants.{Always, Event, Rise, Fall}
use Rattle.graph_tests.specs.declared.Test.{Test}
use Rattle.graph_tests.specs.Table.{rows_for}

-- a trigger gives the edge from its node
abbrev pub trigger_nodes : Trigger → List ℕ
trigger_nodes Always = []
trigger_nodes (Event e) = []
trigger_nodes (Rise y) = up y ∷ []
trigger_nodes (Fall y) = down y ∷ []

-- a status in the condition, a word of kind 2 or 3, gives edges from both its nodes
abbrev pub word_nodes : ℕ → List ℕ
word_nodes w = cond (leb 2 (w % 8) && ltb (w % 8) 4) (both (w / 8 % 32)) []

-- a stage that must be yes after gives both; its code is 0 for none
abbrev pub home_nodes : ℕ → List ℕ
home_nodes zero = []
home_nodes (suc p) = both p

-- the nodes from which edges lead to the test's node
unfoldable pub test_nodes : List ℕ → Test → List ℕ
test_nodes words t = trigger_nodes t.trigger ++ joined word_nodes (take (t.to - t.from) (drop t.from words)) ++ home_nodes t.home

-- the graph of the rows
unfoldable pub tests_into : List ℕ → List Test → Into
tests_into words rows k = joined (test_nodes words) (rows_for rows k)

-- the line of the first test of the node k that gives an edge from p; 0 where none does, or an implied one
unfoldable pub line_from : List ℕ → List Test → ℕ → ℕ → ℕ
line_from words [] p k = 0
line_from words (t ∷ ts) p k = cond (eqb t.node k && is_in p (test_nodes words t)) t.line (line_from words ts p k)
