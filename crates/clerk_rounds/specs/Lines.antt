-- What is told of a sheet alone, on its tables: its counts, and the lines of a circle.
use Rattle.std.specs.Prelude.{ℕ, ◌+◌, ◌*◌, ◌/◌, ◌<◌, cond, List, ◌++◌, eqb, ltb, get_or}
use Rattle.std.proofs.Math.Option.{Option, none, some}
use Rattle.meaning.specs.Text.{text, joined}
use Rattle.meaning.specs.Number.{decimal}
use Rattle.meaning.specs.Refusal.{CYCLE}
use Rattle.meaning.specs.Graph.{order_for}
use Rattle.meaning.specs.Circle.{around, circle_for}
use Rattle.meaning.specs.Step.{rising}
use Rattle.meaning.specs.Write.{line}
use Rattle.meaning.specs.Desk.{refusal_text}
use Rattle.meaning.specs.Clerk.{count_line}
use Rattle.limits.specs.Sizes.{node_room}
use Rattle.name.specs.Names.{name_of}
use Rattle.sheet_tables.specs.declared.Heads.{Heads}
use Rattle.graph_tests.specs.declared.Test.{Test}
use Rattle.graph_circle.specs.declared.Circle.{Circle}
use Rattle.graph_edges.specs.Edges.{tests_into, line_from}
use Rattle.clerk_reasons.specs.Lines.{kept_of}

-- THE COUNTS

-- what stands above the rules, up to its stages
unfoldable pub heads_text : Heads → List ℕ
heads_text h =
    line (text "model") (name_of h.model)
    ++ count_line (text "fields") h.fields
    ++ count_line (text "events") h.events
    ++ count_line (text "stages") h.stages

-- all of them
unfoldable pub counts_text : Heads → ℕ → ℕ → List ℕ
counts_text h rules leaves = heads_text h ++ count_line (text "miles") h.miles ++ count_line (text "rules") rules ++ count_line (text "leaves") leaves

-- THE CIRCLE

-- the sign of a node
unfoldable pub sign_text : ℕ → List ℕ
sign_text k = cond (rising k) (text "+") (text "-")

-- "nodes as `+x` or `-x`", and the space behind one
unfoldable pub node_part : Heads → ℕ → List ℕ
node_part h k = sign_text k ++ name_of (kept_of h (k / 2)) ++ text " "

-- "`circle=FROM TO LINE`"
unfoldable pub edge_text : Heads → ℕ → ℕ → ℕ → List ℕ
edge_text h p k l = text "circle=" ++ node_part h p ++ node_part h k ++ (decimal l ++ text "\n")

-- "the first rule line that gives this edge; where none does (the closing of a child), the child's `stage=` line"
unfoldable pub told_on : Heads → List ℕ → List Test → ℕ → ℕ → ℕ
told_on h words rows p k = cond (eqb (line_from words rows p k) 0) (2 + h.fields + h.events + k / 2) (line_from words rows p k)

-- the line of the edge from a place of a circle to the place behind it
unfoldable pub place_text : Heads → List ℕ → List Test → Circle → ℕ → List ℕ
place_text h words rows c i =
    let p = get_or c.nodes i 0 in
    let k = get_or c.nodes (cond (ltb (i + 1) c.len) (i + 1) 0) 0 in
    edge_text h p k (told_on h words rows p k)

-- "one line for each edge"
unfoldable pub round_text : Heads → List ℕ → List Test → List ℕ → List ℕ
round_text h words rows c = joined (λ e. edge_text h e.from e.to (told_on h words rows e.from e.to)) (around c)

-- "for 7 behind it a circle"
unfoldable pub cycle_text : Heads → List ℕ → List Test → List ℕ → List ℕ
cycle_text h words rows c = refusal_text CYCLE 1 0 ++ round_text h words rows c

-- THE SHEET

-- by its testing order: the counts, or the circle c
abbrev pub told_by : Heads → ℕ → ℕ → List ℕ → List Test → List ℕ → Option (List ℕ) → List ℕ
told_by h rules leaves words rows c (some o) = counts_text h rules leaves
told_by h rules leaves words rows c none = cycle_text h words rows c

-- with its tests and the words of their conditions
unfoldable pub sheet_text : Heads → ℕ → ℕ → List ℕ → List Test → List ℕ
sheet_text h rules leaves words rows =
    let n = (h.stages + h.miles) * 2 in
    told_by h rules leaves words rows (circle_for n (tests_into words rows)) (order_for n (tests_into words rows))

-- nodes of statuses that the tables hold
abbrev pub Held : List ℕ → Type 0
Held ns = (i : ℕ) → get_or ns i 0 < node_room
