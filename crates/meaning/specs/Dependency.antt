-- The dependency graph of a list of tests: the edges that they give.
use Rattle.std.specs.Prelude.{ℕ, List, [], ◌∷◌, ◌++◌, eqb}
use Rattle.std.proofs.Math.Option.{Option, none, some}
use Rattle.meaning.specs.Text.{keep, joined}
use Rattle.meaning.specs.Condition.{Leaf}
use Rattle.meaning.specs.Sheet.{Sheet, Trigger, always, event, rise, fall, leaves_of}
use Rattle.meaning.specs.Graph.{Into, order_for}
use Rattle.meaning.specs.Tests.{up, down, both, nodes, Test, tests}

-- "a trigger `+y` or `-y` gives the edge from that node to c"; "Event triggers, fields and the before test give no edge"
unfoldable pub from_trigger : Trigger → List ℕ
from_trigger always = []
from_trigger (event e) = []
from_trigger (rise y) = up y ∷ []
from_trigger (fall y) = down y ∷ []

-- "a status y in the condition gives edges from both `+y` and `-y`"; "Event triggers, fields and the before test give no edge"
unfoldable pub from_leaf : Leaf → List ℕ
from_leaf (Leaf.status y) = both y
from_leaf (Leaf.compare c) = []

-- "a parent or home p of a `+` rule's status gives both `+p` and `-p`"
unfoldable pub from_home : Option ℕ → List ℕ
from_home none = []
from_home (some p) = both p

-- "For a rule with consequent c" the nodes from which edges lead to c; "Event triggers, fields and the before test give no edge"
unfoldable pub sources : Test → List ℕ
sources t = from_trigger t.trigger ++ joined from_leaf (leaves_of t.condition) ++ from_home t.home

-- the tests of the node k: "that node's rules, the implied one too"
unfoldable pub tests_for : List Test → ℕ → List Test
tests_for ts k = keep (λ t. eqb t.node k) ts

-- the graph: the nodes from which an edge leads to k, "For a rule with consequent c" and by the implied rule, "Each child stage adds `-parent` to `-child`"
unfoldable pub predecessors : List Test → Into
predecessors ts k = joined sources (tests_for ts k)

-- the testing order of a sheet; none where its graph has a cycle: "A sheet is accepted only if no path leads from a node to itself; a self-edge is such a
-- path"
unfoldable pub testing_order : Sheet → Option (List ℕ)
testing_order sh = order_for (nodes sh.heads) (predecessors (tests sh))
