-- A circle of a graph that has no testing order: which one is told, and the line with which each of its edges is told.
use Rattle.std.specs.Prelude.{ℕ, zero, suc, ◌<◌, ◌/◌, ◌≡◌, true, false, cond, List, [], ◌∷◌, ◌⊎◌, length, get_or, eqb}
use Rattle.std.proofs.Math.Option.{Option, none, some}
use Rattle.meaning.specs.Text.{In, is_in, from}
use Rattle.meaning.specs.Sheet.{Heads, Sheet, stage_over}
use Rattle.meaning.specs.Graph.{Into, edge, first_free, without}
use Rattle.meaning.specs.Tests.{down, nodes, Test, tests, rule_tests, rule_line, status_line}
use Rattle.meaning.specs.Dependency.{sources, tests_for, predecessors}

-- an edge
pub record Edge : Type 0 where
  pub from : ℕ
  pub to : ℕ

-- the edges from k on along the nodes behind it, and from the last of them to f: "each TO the next line's FROM, the last TO the first FROM, no node twice"
unfoldable pub along : ℕ → ℕ → List ℕ → List Edge
along f k [] = record { from = k; to = f } ∷ []
along f k (j ∷ js) = record { from = k; to = j } ∷ along f j js

-- the edges around some nodes: "each TO the next line's FROM, the last TO the first FROM, no node twice"
unfoldable pub around : List ℕ → List Edge
around [] = []
around (k ∷ ks) = along k k ks

-- WHAT IS MEANT

-- nodes in the direction of the edges; there is one, none comes twice, and all edges around them are the graph's: "each TO the next line's FROM, the last TO
-- the first FROM, no node twice"; "it is a path of the graph from a node to itself"
pub record IsCircle (into : Into) (c : List ℕ) : Type 0 where
  pub there : 0 < length c
  pub once : (i j : ℕ) → i < length c → j < length c → get_or c i 0 ≡ get_or c j 0 → i ≡ j
  pub edges : (e : Edge) → In e (around c) → edge into e.from e.to ≡ true

-- the tests of the rule lines for a node, in sheet order, for "the first rule line that gives this edge"
unfoldable pub lines_to : Sheet → ℕ → List Test
lines_to sh k = tests_for (rule_tests sh.heads (rule_line sh.heads) sh.rules) k

-- "LINE is the first rule line that gives this edge"
pub record ByRule (sh : Sheet) (e : Edge) (l : ℕ) : Type 0 where
  pub test : Test
  pub on : In test (lines_to sh e.to) × (test.line ≡ l)
  pub gives : is_in e.from (sources test) ≡ true
  pub none_earlier : (t : Test) → In t (lines_to sh e.to) → t.line < l → is_in e.from (sources t) ≡ false

-- "where none does (the closing of a child), the child's `stage=` line"
pub record ByClosing (sh : Sheet) (e : Edge) (l : ℕ) : Type 0 where
  pub child : ℕ
  pub parent : ℕ
  pub stage : child < length sh.heads.stages
  pub over : stage_over sh.heads child ≡ some parent
  pub closes : (e.from ≡ down parent) × (e.to ≡ down child)
  pub on : status_line sh.heads child ≡ l
  pub no_line : (t : Test) → In t (lines_to sh e.to) → is_in e.from (sources t) ≡ false

-- the line with which an edge is told
abbrev pub ToldOn : Sheet → Edge → ℕ → Type 0
ToldOn sh e l = ByRule sh e l ⊎ ByClosing sh e l

-- HOW IT IS COMPUTED

-- what is left, or what is left when k is taken
abbrev pub left_by : List ℕ → (ℕ → List ℕ) → Option ℕ → List ℕ
left_by left rest none = left
left_by left rest (some k) = rest k

-- "of the nodes left when no further one is free, begin with the lowest": those, of the m nodes that are left
unfoldable pub stuck : Into → ℕ → List ℕ → List ℕ
stuck into zero left = left
stuck into (suc m) left = left_by left (λ k. stuck into m (without k left)) (first_free into left left)

-- "the lowest of those left from which an edge leads here"
unfoldable pub lowest_into : Into → List ℕ → ℕ → Option ℕ
lowest_into into [] k = none
lowest_into into (p ∷ ps) k = cond (edge into p k) (some p) (lowest_into into ps k)

-- those that stand before p, for what is told "from the node that came again"
unfoldable pub up_to : ℕ → List ℕ → List ℕ
up_to p [] = []
up_to p (k ∷ ks) = cond (eqb k p) [] (k ∷ up_to p ks)

-- with p, from which an edge leads to the last of the trail: "told in the direction of the edges, from the node that came again"; otherwise further back
abbrev pub came_to : List ℕ → (ℕ → List ℕ) → Option ℕ → List ℕ
came_to trail further none = []
came_to trail further (some p) = cond (is_in p trail) (p ∷ up_to p trail) (further p)

-- "go again and again to the lowest of those left from which an edge leads here, until one comes again": from k, behind the trail of those before it, the
-- last first
unfoldable pub go_back : Into → List ℕ → ℕ → ℕ → List ℕ → List ℕ
go_back into left zero k trail = []
go_back into left (suc m) k trail = came_to (k ∷ trail) (λ p. go_back into left m p (k ∷ trail)) (lowest_into into left k)

-- "of the nodes left when no further one is free, begin with the lowest": from there
abbrev pub circle_in : Into → ℕ → List ℕ → List ℕ
circle_in into n [] = []
circle_in into n (k ∷ ks) = go_back into (k ∷ ks) n k []

-- the circle of a graph with n nodes; none where it has a testing order
unfoldable pub circle_for : ℕ → Into → List ℕ
circle_for n into = circle_in into n (stuck into n (from 0 n))

-- the circle of a sheet
unfoldable pub circle : Sheet → List ℕ
circle sh = circle_for (nodes sh.heads) (predecessors (tests sh))

-- the first of the tests that gives an edge from p: "LINE is the first rule line that gives this edge"
unfoldable pub first_from : ℕ → List Test → Option Test
first_from p [] = none
first_from p (t ∷ ts) = cond (is_in p (sources t)) (some t) (first_from p ts)

-- its line; "where none does (the closing of a child), the child's `stage=` line"
abbrev pub line_or : Heads → ℕ → Option Test → ℕ
line_or hd k none = status_line hd (k / 2)
line_or hd k (some t) = t.line

-- the line of an edge: "LINE is the first rule line that gives this edge"; "where none does (the closing of a child), the child's `stage=` line"
unfoldable pub edge_line : Sheet → Edge → ℕ
edge_line sh e = line_or sh.heads e.to (first_from e.from (lines_to sh e.to))
