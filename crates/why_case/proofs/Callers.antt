-- What a caller may conclude: on the tables of a case that was read, the list is that of the meaning, and the answer is `why`'s.
use Prim.Native.Nat.{ℕ, zero, suc, ◌+◌, ◌-◌, ◌*◌, ◌/◌, ◌≤◌, ◌<◌}
use mathlib.Core.Path.{◌≡◌, refl, sym, ◌∙◌, ap, ap₂, subst}
use mathlib.Core.Bool.{Bool, true, false, not, cond}
use mathlib.Core.List.{List, [], ◌∷◌, ◌++◌, map}
use mathlib.Core.Logic.{inl, inr}
use mathlib.Core.Option.{Option, none, some}
use native.Mathlib.Omega.{arith}
use native.Mathlib.Nat.{add-zero, zero-add}
use native.Mathlib.Decide.{dec_le}
use lib.Dec.{eqb, leb}
use lib.ListN.{length, length-set, get_or-eq_default, get_or, take, drop, set, replicate}
use lib.Seq.{get_or-set_same, get_or-set_other}
use Rattle.meaning.specs.Text.{In, keep, joined, from}
use Rattle.meaning.specs.Refusal.{taken, refused, ROOM}
use Rattle.meaning.specs.Sheet.{Sheet, statuses, stage_over}
use Rattle.meaning.specs.Card.{is}
use Rattle.meaning.specs.Tests as T
use Rattle.meaning.specs.Tests.{up, down, nodes, status_line, tests}
use Rattle.meaning.specs.Dependency.{tests_for, predecessors}
use Rattle.meaning.specs.Step as M
use Rattle.meaning.specs.Step.{moment}
use Rattle.meaning.specs.Why as W
use Rattle.meaning.specs.Why.{Stop, coded, change_of, lines_for, changed, first_that, first_stop, parts_of, closed_by, changed_by, stopped_by, reasons_of, reasons}
use Rattle.meaning.specs.Doors.{Case, read_case, reasons_in, why, fitting, replied, written}
use Rattle.theory.specs.Lists.Members.{Once, from_in, joined_same, map_joined, at_place, map_take, map_drop}
use Rattle.theory.specs.Graphs.Orders.{order_every, order_only}
use Rattle.theory.specs.Step.Tests.{test_of_lem}
use Rattle.theory.specs.Why.Stops.{change_allowed}
use Rattle.theory.specs.Papers.Case.{Papers, case_holds, Apart, case_apart}
use Rattle.theory.specs.Requests.Cases.{at, after, case_few}
use Rattle.theory.specs.Lists.Padded.{padded, padded_at, padded_take}
use Rattle.limits.specs.Sizes.{node_room, word_room}
use Rattle.reply.specs.Answers.{as_reply, refused_reply}
use Rattle.sheet_tables.specs.Heads.{under_code, as_heads}
use Rattle.sheet_tables.proofs.Tables.{sized, under_over}
use Rattle.sheet_tables.specs.Rules.{all_words}
use Rattle.marks.specs.Codes.{marked}
use Rattle.graph_tests.specs.declared.Test.{Test}
use Rattle.graph_tests.specs.Table.{rows_for}
use Rattle.graph_tests.specs.Answers.{rows_of, Standing}
use Rattle.graph_tests.proofs.Callers.{standing_for, rows_stand, tests_few}
use Rattle.step_plan.specs.declared.Plan.{Plan}
use Rattle.step_plan.specs.Plan.{as_plan}
use Rattle.step_test.specs.declared.Moment.{Moment}
use Rattle.step_test.specs.Codes.{as_moment}
use Rattle.step_run.specs.Run.{start_of, rows_at, run_over}
use Rattle.step_run.proofs.Callers.{FitAll, order_once, rows_at_lem, tests_fit, order_leads}
use Rattle.step_sheet.specs.declared.Accepted.{Accepted}
use Rattle.step_sheet.specs.Answers.{taken_sheet}
use Rattle.step_sheet.proofs.Sheets.{accepted_fits, accepted_nodes}
use Rattle.why_case.specs.declared.Spans.{Spans}
use Rattle.why_case.specs.Reasons.{spans_from, spans_of, row_told, node_of, closed_told, status_of, first_held, stops, told, between, reason, reasons_for, all_from, rows_told, facts_of, list_of, reply_for, space_for, Ready}
use Rattle.why_case.proofs.Told as Told
use Rattle.why_case.proofs.Told.{held_code, stop_list, sheet_written, node_same, changed_same, first_told, stops_told}

-- WHERE THE ROWS OF A NODE STAND

module _ (p : Plan) (k : ℕ) where
  -- nodes that are not named leave the tables as they are
  span_other : (o : List ℕ) (i : ℕ) (s : Spans) → (In k o → ⊥)
      → (get_or (spans_from p i o s).from k 0 ≡ get_or s.from k 0) × (get_or (spans_from p i o s).to k 0 ≡ get_or s.to k 0)
  unfolding spans_from
  span_other [] i s n = (refl, refl)
  span_other (x ∷ o) i s n =
      let next : Spans = record { from = set s.from x (start_of p i); to = set s.to x (get_or p.ends i 0) } in
      let later = span_other o (suc i) next (λ j. n (inr j)) in
      (later.0 ∙ get_or-set_other s.from x k (start_of p i) 0 (λ e. n (inl e)), later.1 ∙ get_or-set_other s.to x k (get_or p.ends i 0) 0 (λ e. n (inl e)))

  -- of an order without repeats each node has its own place
  span_at : (o : List ℕ) (i : ℕ) (s : Spans) → Once o → k < length s.from → k < length s.to → In k o
      → (j : ℕ) × (j < length o) × (get_or o j 0 ≡ k) × (get_or (spans_from p i o s).from k 0 ≡ start_of p (i + j))
      × (get_or (spans_from p i o s).to k 0 ≡ get_or p.ends (i + j) 0)
  unfolding spans_from
  span_at [] i s once f t m = absurd m
  span_at (x ∷ o) i s once f t (inl e) =
      let next : Spans = record { from = set s.from x (start_of p i); to = set s.to x (get_or p.ends i 0) } in
      let later = span_other o (suc i) next (λ j. once.0 (subst (λ y. In y o) e j)) in (
        0,
        omega arith,
        sym e,
        later.0 ∙ rw (e, add-zero i) (get_or-set_same s.from x (start_of p i) 0 (rw (← e) f)),
        later.1 ∙ rw (e, add-zero i) (get_or-set_same s.to x (get_or p.ends i 0) 0 (rw (← e) t)),
      )
  span_at (x ∷ o) i s once f t (inr m) =
      let next : Spans = record { from = set s.from x (start_of p i); to = set s.to x (get_or p.ends i 0) } in
      let (j, h, e, a, b) = span_at o (suc i) next once.1 (rw length-set f) (rw length-set t) m in
      let z : suc i + j ≡ i + suc j = omega arith in
      (suc j, omega arith, e, rw z at a, rw z at b)

-- what is told of the rows at a place
rows_between : (tells : Test → ℕ) (p : Plan) (j : ℕ) → between (start_of p j) (get_or p.ends j 0) (map tells p.rows) ≡ map tells (rows_at p j)
unfolding rows_at
rows_between tells p j =
    let n = get_or p.ends j 0 - start_of p j in
    ap (take n) (map_drop tells (start_of p j) p.rows) ∙ map_take tells n (drop (start_of p j) p.rows)

-- THE REASONS OF ONE STATUS

-- what is told once
told_one : (c : ℕ) → 0 < c → told c ≡ c ∷ []
told_one zero h = absurd (omega arith)
told_one (suc c) h = refl

module _ (sh : Sheet) (x : ℕ) where
  -- of a status that changed
  moved : (w : Option T.Test) (m : M.Moment) (side : List Bool)
      → map (reason x) (told (held_code (closed_told (2 + length sh.heads.fields + length sh.heads.events) (under_code (stage_over sh.heads x))) w))
      ≡ map coded (changed_by sh m side x w)
  unfolding coded
  moved none m side = go (stage_over sh.heads x)
    where
      go : (u : Option ℕ) → map (reason x) (told (closed_told (2 + length sh.heads.fields + length sh.heads.events) (under_code u)))
          ≡ map coded (closed_by sh m side x u)
      go none = refl
      go (some p) =
          let line = status_line sh.heads p in
          let z : reason x (line * 10 + 2) ≡ (x * 1000 + line) * 10 + 2 = omega arith in
          ap (map (reason x)) (told_one (line * 10 + 2) (omega arith)) ∙ ap (λ c. c ∷ []) z
  moved (some t) m side =
      let z : reason x (t.line * 10 + 1) ≡ (x * 1000 + t.line) * 10 + 1 = omega arith in
      ap (map (reason x)) (told_one (t.line * 10 + 1) (omega arith)) ∙ ap (λ c. c ∷ []) z

  -- of a line of one that did not
  stayed : (l : ℕ) (w : Option Stop) (m : M.Moment) (side : List Bool) → map (reason x) (stop_list l w) ≡ map coded (stopped_by sh m side x l w)
  unfolding coded
  stayed l none m side = refl
  stayed l (some w) m side =
      let z : reason x (l * 10 + W.kind_number (W.stopped w)) ≡ (x * 1000 + l) * 10 + W.kind_number (W.stopped w) = omega arith in
      ap (λ c. c ∷ []) z

-- A CASE THAT WAS READ
module _ (s c e : List ℕ) (k : Case) (q : read_case s c e ≡ taken k) where
  abbrev a : Accepted
  a = taken_sheet (record { sheet = k.sheet; order = k.order })

  abbrev sh : Sheet
  sh = k.sheet

  -- the moment as the code has it
  abbrev m : Moment
  m = as_moment (at k)

  papers : Papers k
  papers = case_holds s c e k q

  apart : Apart s c e k
  apart = case_apart s c e k q

  long : length k.order ≡ nodes sh.heads
  long = accepted_nodes s (record { sheet = sh; order = k.order }) apart.sheet

  full : length (at k).before ≡ length (statuses sh.heads)
  unfolding moment
  full = papers.marked

  words_are : a.words ≡ all_words sh.rules ++ replicate (word_room - length (all_words sh.rules)) 0
  unfolding padded
  words_are = refl

  fits : FitAll (tests sh)
  fits = tests_fit sh (accepted_fits s (record { sheet = sh; order = k.order }) apart.sheet)

  standing : Standing a.words (tests sh) (rows_of sh)
  standing = rows_stand sh a.words (replicate (word_room - length (all_words sh.rules)) 0) words_are

  -- the marks after the step
  marks_after_lem : run_over a.words m a.plan ≡ marked (after k)
  marks_after_lem = order_leads sh papers.well (accepted_fits s (record { sheet = sh; order = k.order }) apart.sheet) k.order papers.order (at k) full
      a.words (replicate (word_room - length (all_words sh.rules)) 0) words_are

  once : Once k.order
  once = order_once (nodes sh.heads) (predecessors (tests sh)) k.order papers.order

  only : (n : ℕ) → In n k.order → n < nodes sh.heads
  only = order_only (nodes sh.heads) (predecessors (tests sh)) k.order papers.order

  few_nodes : (n : ℕ) → n < nodes sh.heads → n < node_room
  unfolding nodes
  few_nodes n h = omega (arith, papers.well.heads.statuses_few)

  -- what is told of the rows of a node
  rows_told_lem : (n : ℕ) → n < nodes sh.heads → between (get_or (spans_of a.plan).from n 0) (get_or (spans_of a.plan).to n 0) (rows_told a m)
      ≡ map (row_told a.words m (marked (after k))) (rows_for (rows_of sh) n)
  unfolding spans_of rows_told as_plan
  rows_told_lem n h =
      let p = a.plan in
      let o = k.order in
      let blank : Spans = record { from = replicate node_room 0; to = replicate node_room 0 } in
      let low : n < node_room = few_nodes n h in
      let spans : spans_of p ≡ spans_from p 0 o blank = ap (λ l. spans_from p 0 l blank) (padded_take node_room 0 o) in
      let (j, l, e, f, t) = span_at p n o 0 blank once low low (order_every (nodes sh.heads) (predecessors (tests sh)) o papers.order n h) in
      let tells : Test → ℕ = row_told a.words m (marked (after k)) in
      ap₂ (λ (x : Spans) rows. between (get_or x.from n 0) (get_or x.to n 0) rows) spans (ap (λ side. map (row_told a.words m side) p.rows) marks_after_lem)
      ∙ ap₂ (λ from to. between from to (map tells p.rows)) (f ∙ ap (start_of p) (zero-add j)) (t ∙ ap (λ i. get_or p.ends i 0) (zero-add j))
      ∙ rows_between tells p j
      ∙ ap (map tells) (rows_at_lem (tests sh) (rows_of sh) a.words standing fits (tests_few sh papers.well) o once (nodes sh.heads) only j l
      ∙ ap (rows_for (rows_of sh)) e)

  -- the reasons of a status
  module _ (x : ℕ) (h : x < length (at k).before) where
    abbrev n : ℕ
    n = change_of (at k).before x

    abbrev other : ℕ
    other = closed_told (2 + length sh.heads.fields + length sh.heads.events) (under_code (stage_over sh.heads x))

    abbrev rows : List Test
    rows = rows_for (rows_of sh) n

    -- what is told, where it changed and where it did not
    abbrev tell : Bool → List ℕ → ℕ → List ℕ
    tell b cs other = map (reason x) (cond b (told (first_held cs other)) (stops cs))

    below : n < nodes sh.heads
    unfolding nodes
    below = go (is (at k).before x)
      where
        go : (b : Bool) → cond b (down x) (up x) < length (statuses sh.heads) * 2
        go true = omega (arith, full)
        go false = omega (arith, full)

    own : (t : T.Test) → In t (tests_for (tests sh) n) → t.node ≡ n
    own t i = (test_of_lem (tests sh) n t i).1

    fit : FitAll (tests_for (tests sh) n)
    fit t i = fits t (test_of_lem (tests sh) n t i).0

    told_of : (b : Bool) → tell b (map (row_told a.words m (marked (after k))) rows) other
        ≡ map coded (cond b (changed_by sh (at k) (after k) x (first_that sh (at k) (after k) (lines_for sh (at k) (after k) x)))
        (joined (λ t. stopped_by sh (at k) (after k) x t.line (first_stop (parts_of sh (at k) (after k) t))) (lines_for sh (at k) (after k) x)))
    unfolding lines_for
    told_of true =
        ap (λ c. map (reason x) (told c)) (first_told sh (at k) (after k) a.words n (change_allowed (at k).before x) (tests_for (tests sh) n) rows
        (standing_for a.words (tests sh) (rows_of sh) n standing) fit own other)
        ∙ moved sh x (first_that sh (at k) (after k) (keep Told.written (tests_for (tests sh) n))) (at k) (after k)
        ∙ ap (λ ts. map coded (changed_by sh (at k) (after k) x (first_that sh (at k) (after k) ts))) (sheet_written sh n)
    told_of false =
        let stop : T.Test → Option Stop = λ t. first_stop (parts_of sh (at k) (after k) t) in
        let ts = keep Told.written (tests_for (tests sh) n) in
        ap (map (reason x)) (stops_told sh (at k) (after k) a.words n (change_allowed (at k).before x) (tests_for (tests sh) n) rows
        (standing_for a.words (tests sh) (rows_of sh) n standing) fit own)
        ∙ map_joined (reason x) (λ (t : T.Test). stop_list t.line (stop t)) ts
        ∙ joined_same (λ (t : T.Test). map (reason x) (stop_list t.line (stop t))) (λ t. map coded (stopped_by sh (at k) (after k) x t.line (stop t))) ts
        (λ t i. stayed sh x t.line (stop t) (at k) (after k))
        ∙ sym (map_joined coded (λ (t : T.Test). stopped_by sh (at k) (after k) x t.line (stop t)) ts)
        ∙ ap (λ ts. map coded (joined (λ t. stopped_by sh (at k) (after k) x t.line (stop t)) ts)) (sheet_written sh n)

    reasons_at : reasons_for (status_of (facts_of a m) x) (rows_told a m) x ≡ map coded (reasons_of sh (at k) (after k) x)
    unfolding reasons_for status_of facts_of reasons_of as_heads
    reasons_at =
        let spans = spans_of a.plan in
        let before = (at k).before in
        let there : node_of (marked before) x ≡ n = node_same before x in
        ap₂ (λ b cs. tell b cs (closed_told (2 + length sh.heads.fields + length sh.heads.events) (get_or a.heads.under x 0)))
        (ap (λ side. not (eqb (get_or (marked before) x 0) (get_or side x 0))) marks_after_lem ∙ changed_same sh (at k) (after k) x)
        (ap (λ i. between (get_or spans.from i 0) (get_or spans.to i 0) (rows_told a m)) there ∙ rows_told_lem n below)
        ∙ ap (λ u. tell (changed sh (at k) (after k) x) (map (row_told a.words m (marked (after k))) rows)
        (closed_told (2 + length sh.heads.fields + length sh.heads.events) u)) (under_over sh.heads x)
        ∙ told_of (changed sh (at k) (after k) x)

  -- THE LIST

  pub list_is : list_of a m ≡ why k
  unfolding list_of all_from why reasons_in reasons as_plan nodes
  list_is =
      let half : length k.order / 2 ≡ length (at k).before = omega (arith, long, full) in
      let one : ℕ → List ℕ = λ x. reasons_for (status_of (facts_of a m) x) (rows_told a m) x in
      ap (λ n. joined one (from 0 n)) half
      ∙ joined_same one (λ x. map coded (reasons_of sh (at k) (after k) x)) (from 0 (length (at k).before))
      (λ x i. reasons_at x (omega (arith, (from_in (length (at k).before) 0 x i).1)))
      ∙ sym (map_joined coded (reasons_of sh (at k) (after k)) (from 0 (length (at k).before)))

  pub ready : Ready a m
  unfolding as_plan nodes
  ready = record {
    sized = sized sh.heads papers.well.heads;
    few_nodes = omega (arith, long, papers.well.heads.statuses_few);
    low_nodes = λ i. rw (padded_at node_room 0 k.order i) (low i (dec_le (length k.order) i));
    few = rw list_is (omega (arith, case_few k papers));
  }
    where
      low : (i : ℕ) → Dec (length k.order ≤ i) → get_or k.order i 0 < node_room
      low i (yes h) = rw (get_or-eq_default k.order 0 {n = i} h) (omega arith)
      low i (no h) = few_nodes (get_or k.order i 0) (only (get_or k.order i 0) (at_place k.order i (omega arith)))

  -- THE ANSWER

  pub reply_why : (room : ℕ) → reply_for a m room ≡ as_reply (replied (λ (l : List ℕ). length l) (λ l. 0) (fitting (λ (l : List ℕ). l) room (why k)))
  unfolding reply_for fitting replied
  reply_why room = rw list_is (go (leb (length (why k)) room))
    where
      go : (b : Bool) → cond b (record { number = 0; paper = 0; line = 0; count = length (why k); tasks = 0 }) (refused_reply ROOM 0 0)
          ≡ as_reply (replied (λ (l : List ℕ). length l) (λ l. 0) (cond b (taken (why k)) (refused ROOM 0 0)))
      go true = refl
      go false = refl

  pub space_why : (lent : List ℕ) → space_for a m lent ≡ written (λ (l : List ℕ). l) lent (fitting (λ (l : List ℕ). l) (length lent) (why k))
  unfolding space_for fitting written
  space_why lent = rw list_is (go (leb (length (why k)) (length lent)))
    where
      go : (b : Bool) → cond b (why k ++ drop (length (why k)) lent) lent ≡ written (λ (l : List ℕ). l) lent (cond b (taken (why k)) (refused ROOM 0 0))
      go true = refl
      go false = refl
