-- The check of a sheet: each edge of its graph has the line with which it is told, the circle that is told is one, and the text fits.
use Rattle.std.specs.Prelude.{ℕ, ◌+◌, ◌*◌, ◌/◌, ◌≤◌, ◌<◌, ◌≡◌, refl, Bool, cond, List, [], ◌∷◌, ◌++◌, ◌↔◌, get_or}
use Rattle.std.proofs.Common.{sym, ◌∙◌, subst, true≢false, eq-eqb}
use Rattle.std.proofs.Math.Path.{ap}
use Rattle.std.proofs.Math.Bool.{true, false}
use Rattle.std.proofs.Math.Option.{Option, none, some}
use Rattle.std.proofs.Math.Logic.{inl, inr, ⊎_elim}
use native.Mathlib.Omega.{arith}
use Rattle.std.proofs.Math.Dec.{eqb}
use Rattle.std.proofs.Math.ListN.{length, length-append, get_or-append}
use Rattle.meaning.specs.Text.{In, is_in, text, joined}
use Rattle.meaning.specs.Refusal.{taken, refused, CYCLE}
use Rattle.meaning.specs.Limits.{sheet_bytes, name_bytes, status_limit}
use Rattle.meaning.specs.Reading.{paper}
use Rattle.meaning.specs.Number.{decimal}
use Rattle.meaning.specs.Sheet.{Sheet, Status, statuses, stage_over, leaves_of, leaves}
use Rattle.meaning.specs.ReadSheet.{sheet}
use Rattle.meaning.specs.Graph.{edge, Cycle, Inside}
use Rattle.meaning.specs.Tests.{down, nodes, Test, rule_tests, rule_line, status_line, closes, implied, tests}
use Rattle.meaning.specs.Dependency.{from_trigger, from_home, sources, tests_for, predecessors, testing_order}
use Rattle.meaning.specs.Circle.{Edge, around, IsCircle, lines_to, ByClosing, ToldOn, circle, first_from, line_or, edge_line}
use Rattle.meaning.specs.Step.{rising}
use Rattle.meaning.specs.Write.{line}
use Rattle.meaning.specs.Desk.{refusal_text}
use Rattle.meaning.specs.Clerk.{status_name, count_line, sheet_told, node_text, circle_line, check_printed, check_output}
use Rattle.theory.specs.Lists.Members.{in_cases, joined_in, in_keep, is_in_lem, in_is}
use Rattle.theory.specs.Graphs.Orders.{cycle_exactly}
use Rattle.theory.specs.Graphs.Circles.{around_few, circle_few, circle_right}
use Rattle.theory.specs.Step.Shelter.{nowhere}
use Rattle.theory.specs.Reading.Readers.{paper_holds}
use Rattle.theory.specs.Papers.Names.{good_short}
use Rattle.theory.specs.Papers.Counts.{decimal_few}
use Rattle.theory.specs.Papers.Formed.{Well}
use Rattle.theory.specs.Papers.Sheets.{sheet_well}
use Rattle.theory.specs.Step.Tests.{test_of_lem}
use Rattle.theory.specs.Step.SheetTests.{child_test, sheet_inside}
use Rattle.theory.specs.Writing.ReadBack.{line_length_lem}
use Rattle.theory.specs.Why.Stops.{LinesUp, rules_up, keep_up}
use Rattle.theory.specs.Why.Sums.{joined_most}
use Rattle.theory.specs.Clerk.Readout.{status_short}

-- THE LINE OF AN EDGE

-- what is found among tests: none gives an edge from p, or this one does and none on an earlier line
abbrev FirstFrom : ℕ → List Test → Option Test → Type 0
FirstFrom p ts none = (u : Test) → In u ts → is_in p (sources u) ≡ false
FirstFrom p ts (some t) = In t ts × (is_in p (sources t) ≡ true) × ((u : Test) → In u ts → u.line < t.line → is_in p (sources u) ≡ false)

first_from_lem : (p : ℕ) (ts : List Test) → LinesUp ts → FirstFrom p ts (first_from p ts)
unfolding first_from
first_from_lem p [] up = λ u i. absurd i
first_from_lem p (t ∷ ts) up = go (is_in p (sources t)) refl (first_from p ts) (first_from_lem p ts up.1)
  where
    behind : (u : Test) → In u (t ∷ ts) → u.line < t.line → ⊥
    behind u (inl q) l = let z : u.line ≡ t.line = ap (λ (w : Test). w.line) q in omega arith
    behind u (inr i) l = let z = up.0 u i in omega arith

    go : (b : Bool) → is_in p (sources t) ≡ b → (o : Option Test) → FirstFrom p ts o → FirstFrom p (t ∷ ts) (cond b (some t) o)
    go true e o h = (inl refl, e, λ u i l. absurd (behind u i l))
    go false e none h = λ u i. ⊎_elim (λ q. rw q e) (h u) i
    go false e (some v) h = (inr h.0, h.1, λ u i l. ⊎_elim (λ q. rw q e) (λ j. h.2 u j l) i)

module _ (sh : Sheet) (e : Edge) where
  abbrev rules : List Test
  rules = rule_tests sh.heads (rule_line sh.heads) sh.rules

  lines_up : LinesUp (lines_to sh e.to)
  unfolding lines_to tests_for
  lines_up = keep_up (λ (t : Test). eqb t.node e.to) rules (rules_up sh.heads (rule_line sh.heads) sh.rules)

  -- an edge that no rule line gives is that of a closing
  by_closing : edge (predecessors (tests sh)) e.from e.to ≡ true → ((t : Test) → In t (lines_to sh e.to) → is_in e.from (sources t) ≡ false)
      → ByClosing sh e (status_line sh.heads (e.to / 2))
  unfolding edge predecessors lines_to tests_for tests stage_over statuses sources from_trigger from_home joined leaves_of
  by_closing h bare =
      let (t, i, j) = joined_in sources e.from (tests_for (tests sh) e.to) (is_in_lem e.from (predecessors (tests sh) e.to) h) in
      let (a, b) = test_of_lem (tests sh) e.to t i in
      ⊎_elim
      (λ r. let k = in_keep (λ (t : Test). eqb t.node e.to) t rules r (eq-eqb t.node e.to b) in
      absurd (true≢false (sym (in_is e.from (sources t) j) ∙ bare t k)))
      (λ r. let (x, p, l, u, q) = child_test sh.heads.stages t r in
      closed x p l u (sym b ∙ ap (λ (w : Test). w.node) q) (subst (λ w. In e.from (sources w)) q j))
      (in_cases t rules (implied 0 sh.heads.stages) a)
    where
      closed : (x p : ℕ) → x < length sh.heads.stages → (get_or sh.heads.stages x nowhere).under ≡ some p
          → e.to ≡ down x → In e.from (sources (closes x p)) → ByClosing sh e (status_line sh.heads (e.to / 2))
      closed x p l u k (inl q) = record {
        child = x;
        parent = p;
        stage = l;
        over = ap (λ (s : Status). s.under) (get_or-append sh.heads.stages sh.heads.miles nowhere x l) ∙ u;
        closes = (q, k);
        on = omega arith;
        no_line = bare;
      }
      closed x p l u k (inr i) = absurd i

  -- each edge has its line
  pub edge_told : edge (predecessors (tests sh)) e.from e.to ≡ true → ToldOn sh e (edge_line sh e)
  unfolding edge_line
  edge_told h = go (first_from e.from (lines_to sh e.to)) (first_from_lem e.from (lines_to sh e.to) lines_up)
    where
      go : (o : Option Test) → FirstFrom e.from (lines_to sh e.to) o → ToldOn sh e (line_or sh.heads e.to o)
      go none f = inr (by_closing h f)
      go (some t) f = inl (record { test = t; on = (f.0, refl); gives = f.1; none_earlier = f.2 })

-- THE CIRCLE OF A SHEET

-- the edges of its graph lead from node to node
read_inside : (s : List ℕ) (sh : Sheet) → paper 1 sheet_bytes sheet s ≡ taken sh → Inside (nodes sh.heads) (predecessors (tests sh))
read_inside s sh q = sheet_inside sh (paper_holds Well 1 sheet_bytes sheet s sheet_well sh q)

-- of a sheet in order: where it has no testing order the circle is one, each of its edges told on its line; it has none exactly where its graph has a cycle
pub sheet_circle : (s : List ℕ) (sh : Sheet) → paper 1 sheet_bytes sheet s ≡ taken sh
    → (testing_order sh ≡ none → IsCircle (predecessors (tests sh)) (circle sh) × ((e : Edge) → In e (around (circle sh)) → ToldOn sh e (edge_line sh e)))
    × ((testing_order sh ≡ none) ↔ Cycle (predecessors (tests sh)))
unfolding testing_order circle
sheet_circle s sh q = (
  λ o. (right o, λ e i. edge_told sh e ((right o).edges e i)),
  cycle_exactly (nodes sh.heads) (predecessors (tests sh)) (read_inside s sh q),
)
  where
    right : testing_order sh ≡ none → IsCircle (predecessors (tests sh)) (circle sh)
    right = circle_right (nodes sh.heads) (predecessors (tests sh))

-- THE TEXT OF A CHECK

-- a sheet that is not in order
pub check_refused : (s : List ℕ) (n p l : ℕ) → paper 1 sheet_bytes sheet s ≡ refused n p l → check_output s ≡ refusal_text n p l
unfolding check_output check_printed
check_refused s n p l e = rw e

-- one with a circle
pub check_circle : (s : List ℕ) (sh : Sheet) → paper 1 sheet_bytes sheet s ≡ taken sh → testing_order sh ≡ none
    → check_output s ≡ refusal_text CYCLE 1 0 ++ joined (circle_line sh) (around (circle sh))
unfolding check_output check_printed
check_circle s sh e o = rw (e, o)

-- one that is accepted
pub check_sheet : (s : List ℕ) (sh : Sheet) (o : List ℕ) → paper 1 sheet_bytes sheet s ≡ taken sh → testing_order sh ≡ some o → check_output s ≡ sheet_told sh
unfolding check_output check_printed
check_sheet s sh o e q = rw (e, q)

-- HOW LONG IT IS

-- `refused=` and three numbers
pub refusal_few : (n p l : ℕ) → length (refusal_text n p l) ≤ 41
unfolding refusal_text
refusal_few n p l = omega (
  arith,
  line_length_lem (text "refused") (decimal n ++ text " " ++ decimal p ++ text " " ++ decimal l),
  length-append (decimal n ++ text " " ++ decimal p ++ text " ") (decimal l),
  length-append (decimal n ++ text " " ++ decimal p) (text " "),
  length-append (decimal n ++ text " ") (decimal p),
  length-append (decimal n) (text " "),
  decimal_few n,
  decimal_few p,
  decimal_few l,
)

count_short : (key : List ℕ) (n : ℕ) → length (count_line key n) ≤ length key + 12
count_short key n = omega (arith, line_length_lem key (decimal n), decimal_few n)

module _ (sh : Sheet) (well : Well sh) where
  node_short : (k : ℕ) → length (node_text sh.heads k) ≤ 1 + name_bytes
  unfolding node_text
  node_short k = go (rising k)
    where
      go : (b : Bool) → length (cond b (text "+") (text "-") ++ status_name sh.heads (k / 2)) ≤ 1 + name_bytes
      go true = omega (arith, status_short sh.heads well.heads (k / 2))
      go false = omega (arith, status_short sh.heads well.heads (k / 2))

  -- a line of the circle
  pub edge_short : (e : Edge) → length (circle_line sh e) ≤ 22 + 2 * name_bytes
  unfolding circle_line
  edge_short e =
      let a = node_text sh.heads e.from in
      let b = node_text sh.heads e.to in
      let d = decimal (edge_line sh e) in
      omega (
        arith,
        line_length_lem (text "circle") (a ++ text " " ++ b ++ text " " ++ d),
        length-append (a ++ text " " ++ b ++ text " ") d,
        length-append (a ++ text " " ++ b) (text " "),
        length-append (a ++ text " ") b,
        length-append a (text " "),
        node_short e.from,
        node_short e.to,
        decimal_few (edge_line sh e),
      )

  -- as many lines as nodes at most
  pub circle_short : length (refusal_text CYCLE 1 0 ++ joined (circle_line sh) (around (circle sh))) ≤ 41 + 2 * status_limit * (22 + 2 * name_bytes)
  unfolding circle nodes
  circle_short =
      let c = circle sh in
      let lines = joined (circle_line sh) (around c) in
      omega (
        arith,
        length-append (refusal_text CYCLE 1 0) lines,
        refusal_few CYCLE 1 0,
        joined_most (circle_line sh) (22 + 2 * name_bytes) (around c) (λ e i. edge_short e),
        around_few c,
        circle_few (nodes sh.heads) (predecessors (tests sh)),
        well.heads.statuses_few,
      )

  -- the seven lines of a sheet that is accepted
  pub sheet_short : length (sheet_told sh) ≤ 113 + name_bytes
  unfolding sheet_told
  sheet_short =
      let hd = sh.heads in
      let a = line (text "model") hd.model in
      let b = count_line (text "fields") (length hd.fields) in
      let c = count_line (text "events") (length hd.events) in
      let d = count_line (text "stages") (length hd.stages) in
      let e = count_line (text "miles") (length hd.miles) in
      let f = count_line (text "rules") (length sh.rules) in
      let g = count_line (text "leaves") (length (leaves sh.rules)) in
      omega (
        arith,
        line_length_lem (text "model") hd.model,
        good_short hd.model well.heads.model,
        count_short (text "fields") (length hd.fields),
        count_short (text "events") (length hd.events),
        count_short (text "stages") (length hd.stages),
        count_short (text "miles") (length hd.miles),
        count_short (text "rules") (length sh.rules),
        count_short (text "leaves") (length (leaves sh.rules)),
        length-append (a ++ b ++ c ++ d ++ e ++ f) g,
        length-append (a ++ b ++ c ++ d ++ e) f,
        length-append (a ++ b ++ c ++ d) e,
        length-append (a ++ b ++ c) d,
        length-append (a ++ b) c,
        length-append a b,
      )
