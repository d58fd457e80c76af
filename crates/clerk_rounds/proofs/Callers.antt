-- What callers use: on the tables of a sheet, what is told is what the meaning tells.
use Prim.Native.Nat.{ℕ, ◌+◌, ◌-◌, ◌*◌, ◌/◌, ◌<◌}
use mathlib.Core.Path.{◌≡◌, refl, sym, ◌∙◌, ap, ap₂, fun_ext}
use mathlib.Core.List.{List, ◌++◌, append_assoc}
use mathlib.Core.Option.{Option, none, some}
use native.Mathlib.Omega.{arith}
use lib.ListN.{length, length-append, take, replicate}
use Rattle.meaning.specs.Text.{text, In, joined}
use Rattle.meaning.specs.Number.{decimal}
use Rattle.meaning.specs.Sheet as M
use Rattle.meaning.specs.Sheet.{Sheet, statuses, leaves}
use Rattle.meaning.specs.Graph.{Into, order_for}
use Rattle.meaning.specs.Tests.{nodes, tests}
use Rattle.meaning.specs.Dependency.{predecessors, testing_order}
use Rattle.meaning.specs.Circle.{around, circle_for, circle, edge_line}
use Rattle.meaning.specs.Write.{line}
use Rattle.meaning.specs.Clerk.{sheet_told, node_text, circle_line, order_told}
use Rattle.theory.specs.Lists.Members.{joined_same}
use Rattle.theory.specs.Papers.Formed.{Well}
use Rattle.limits.specs.Sizes.{word_room}
use Rattle.name.specs.Names.{name_of}
use Rattle.sheet_tables.specs.declared.Heads.{Heads}
use Rattle.theory.specs.Lists.Padded.{padded}
use Rattle.sheet_tables.specs.Heads.{as_heads}
use Rattle.sheet_tables.proofs.Names as Names
use Rattle.sheet_tables.proofs.Tables.{heads_again}
use Rattle.sheet_tables.specs.Rules.{all_words}
use Rattle.graph_tests.specs.declared.Test.{Test}
use Rattle.graph_tests.specs.declared.Tests.{Tests}
use Rattle.graph_tests.specs.Table.{as_tests}
use Rattle.graph_tests.specs.Answers.{rows_of}
use Rattle.graph_edges.specs.Edges.{tests_into, line_from}
use Rattle.graph_edges.proofs.Callers.{words_into, line_is}
use Rattle.clerk_reasons.proofs.Callers.{name_is}
use Rattle.clerk_rounds.specs.Lines.{heads_text, counts_text, sign_text, node_part, edge_text, told_on, round_text, cycle_text, told_by, sheet_text}
use Rattle.theory.specs.Graphs.Circles.{around_in, circle_below}

joining : (key a s b l end : List ℕ) → key ++ (a ++ s) ++ (b ++ s) ++ (l ++ end) ≡ key ++ (a ++ s ++ b ++ s ++ l) ++ end
joining key a s b l end = simp append_assoc

-- a sheet that was read, the table of its tests and the words of their conditions
module _ (sh : Sheet) (well : Well sh) (table : Tests) (ws : List ℕ)
    (tests_are : table ≡ as_tests (rows_of sh)) (words_are : ws ≡ padded word_room 0 (all_words sh.rules)) where
  abbrev tables : Heads
  tables = as_heads sh.heads

  abbrev rows : List Test
  rows = take table.count table.rows

  -- THE COUNTS

  model_is : name_of tables.model ≡ sh.heads.model
  model_is = sym (Names.model_is tables) ∙ ap (λ (hd : M.Heads). hd.model) (heads_again sh.heads well.heads)

  counts_are : counts_text tables (length sh.rules) (length (leaves sh.rules)) ≡ sheet_told sh
  unfolding counts_text heads_text sheet_told as_heads
  counts_are = rw model_is

  -- THE CIRCLE

  node_is : (k : ℕ) → k < nodes sh.heads → node_part tables k ≡ node_text sh.heads k ++ text " "
  unfolding node_part sign_text node_text nodes
  node_is k h = rw (name_is sh.heads well.heads (k / 2) (omega arith))

  -- an edge told with a line
  abbrev told_as : ℕ → ℕ → ℕ → List ℕ
  told_as p k l = line (text "circle") (node_text sh.heads p ++ text " " ++ node_text sh.heads k ++ text " " ++ decimal l)

  edge_is : (p k l : ℕ) → p < nodes sh.heads → k < nodes sh.heads → edge_text tables p k l ≡ told_as p k l
  unfolding edge_text line
  edge_is p k l h g =
      rw (node_is p h, node_is k g) (joining (text "circle=") (node_text sh.heads p) (text " ") (node_text sh.heads k) (decimal l) (text "\n"))

  told_is : (p k : ℕ) → told_on tables ws rows p k ≡ edge_line sh (record { from = p; to = k })
  unfolding told_on as_heads
  told_is p k = line_is sh well table ws tests_are words_are p k (line_from ws rows p k) refl

  round_is : (c : List ℕ) → ((k : ℕ) → In k c → k < nodes sh.heads) → round_text tables ws rows c ≡ joined (circle_line sh) (around c)
  unfolding round_text circle_line
  round_is c below =
      joined_same (λ e. edge_text tables e.from e.to (told_on tables ws rows e.from e.to)) (circle_line sh) (around c) λ e i.
      let (a, b) = around_in c e i in
      edge_is e.from e.to (told_on tables ws rows e.from e.to) (below e.from a) (below e.to b)
      ∙ ap (told_as e.from e.to) (told_is e.from e.to)

  -- THE SHEET

  nodes_are : (tables.stages + tables.miles) * 2 ≡ nodes sh.heads
  unfolding as_heads nodes statuses
  nodes_are = ap (λ n. n * 2) (sym (length-append sh.heads.stages sh.heads.miles))

  into_is : tests_into ws rows ≡ predecessors (tests sh)
  unfolding padded
  into_is = fun_ext (words_into sh well table ws tests_are (replicate (word_room - length (all_words sh.rules)) 0) words_are)

  told_by_lem : (o : Option (List ℕ)) → told_by tables (length sh.rules) (length (leaves sh.rules)) ws rows (circle sh) o ≡ order_told sh o
  unfolding cycle_text circle
  told_by_lem (some o) = counts_are
  told_by_lem none = rw (round_is (circle sh) (circle_below (nodes sh.heads) (predecessors (tests sh))))

  pub sheet_told_lem : sheet_text (as_heads sh.heads) (length sh.rules) (length (leaves sh.rules)) ws (take table.count table.rows)
      ≡ order_told sh (testing_order sh)
  unfolding sheet_text testing_order circle
  sheet_told_lem =
      let rules = length sh.rules in
      let many = length (leaves sh.rules) in
      ap₂ (λ n (into : Into). told_by tables rules many ws rows (circle_for n into) (order_for n into)) nodes_are into_is ∙ told_by_lem (testing_order sh)
