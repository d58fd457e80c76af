-- The accepted sheet, return by return: what is known there, and the answer that is asked.
use Prim.Native.Nat.{ℕ, zero, suc, ◌+◌, ◌-◌, ◌*◌, ◌≤◌}
use mathlib.Core.Path.{◌≡◌, refl, sym, ◌∙◌, ap, ap₂}
use mathlib.Core.List.{List, ◌++◌}
use mathlib.Core.Option.{some}
use native.Mathlib.Omega.{arith}
use native.Mathlib.Nat.{sub-zero, zero-sub}
use mir.Val.{Fits}
use mir.Syntax.{w64}
use lib.ListN.{length, take, drop, replicate, length-append, length-replicate}
use lib.Seq.{sets, sets-eq}
use Rattle.meaning.specs.Refusal.{Answer, taken, refused, on_taken, CYCLE}
use Rattle.meaning.specs.Limits.{sheet_bytes, status_limit}
use Rattle.meaning.specs.Reading.{paper}
use Rattle.meaning.specs.Sheet as M
use Rattle.meaning.specs.Sheet.{statuses}
use Rattle.meaning.specs.ReadSheet.{sheet}
use Rattle.meaning.specs.Graph.{order_for}
use Rattle.meaning.specs.Tests.{nodes, rule_line}
use Rattle.meaning.specs.Dependency.{testing_order}
use Rattle.meaning.specs.Doors as D
use Rattle.meaning.specs.Doors.{accepted, read_sheet}
use Rattle.theory.specs.Reading.Readers.{paper_holds}
use Rattle.theory.specs.Papers.Formed.{Well}
use Rattle.theory.specs.Papers.Sheets.{sheet_well}
use Rattle.theory.specs.Requests.Numbers.{sheet_tells}
use Rattle.theory.specs.Lists.Padded.{padded, padded_length}
use Rattle.limits.specs.Sizes.{node_room, word_room}
use Rattle.sheet_tables.specs.declared.Heads.{Heads}
use Rattle.sheet_tables.specs.Heads.{as_heads}
use Rattle.sheet_tables.specs.Rules.{all_words, as_rules}
use Rattle.sheet_read.specs.declared.SheetRead.{SheetRead}
use Rattle.sheet_read.specs.Answers.{sheet_tables, as_sheet_read, words_read}
use Rattle.std.specs.Prelude.{Result, Ok, Err}
use Rattle.reply.specs.declared.Wrong.{Wrong}
use Rattle.reply.specs.Faults.{number_of, wrong_of}
use Rattle.reply.proofs.Faults.{number_again}
use Rattle.graph_tests.specs.declared.Tests.{Tests}
use Rattle.graph_tests.specs.Table.{as_tests, first_line, tests_of, Ready}
use Rattle.graph_tests.specs.Answers.{rows_of}
use Rattle.graph_tests.proofs.Callers.{tests_taken, tests_are, tests_ready}
use Rattle.std.specs.Prelude as Code
use Rattle.std.specs.Prelude.{Some, None}
use Rattle.graph_order.specs.Answers.{as_sorting}
use Rattle.graph_edges.specs.Edges.{tests_into}
use Rattle.graph_edges.proofs.Callers.{order_is, order_none, order_some}
use Rattle.step_plan.specs.declared.Plan.{Plan}
use Rattle.step_plan.specs.Plan.{as_plan, plan_for}
use Rattle.step_sheet.specs.declared.Accepted.{Accepted}
use Rattle.step_sheet.specs.Answers.{refused_sheet, taken_sheet, as_accepted}
use Rattle.step_sheet.proofs.Fitting.{sheet_words}
use Rattle.step_sheet.proofs.Sheets.{order_long}

-- words at the start of a blank array
drop_blank : (n m : ℕ) → ◌≡◌ {A = List ℕ} (drop n (replicate m 0)) (replicate (m - n) 0)
drop_blank zero m = rw (sub-zero m)
drop_blank (suc n) zero = rw (zero-sub (suc n))
drop_blank (suc n) (suc m) = let z : suc m - suc n ≡ m - n = omega arith in rw z (drop_blank n m)

sets_padded : (ws : List ℕ) → length ws ≤ word_room → sets (replicate word_room 0) 0 ws ≡ padded word_room 0 ws
unfolding padded
sets_padded ws h =
    let z : 0 + length ws ≡ length ws = omega arith in
    sets-eq ws (replicate word_room 0) 0 (omega (arith, length-replicate {A = ℕ} word_room 0)) ∙ ap (λ n. ws ++ drop n (replicate word_room 0)) z
    ∙ ap (λ r. ws ++ r) (drop_blank (length ws) word_room)

-- an accepted sheet is made of its parts
made : (x : Heads) (w : List ℕ) (n : ℕ) (p : Plan) (a : D.Accepted) → x ≡ as_heads a.sheet.heads → w ≡ padded word_room 0 (all_words a.sheet.rules)
    → n ≡ length (all_words a.sheet.rules)
    → p ≡ plan_for (rows_of a.sheet) a.order
    → ◌≡◌ {A = Accepted} (record { number = 0; line = 0; heads = x; words = w; top = n; plan = p }) (taken_sheet a)
made x w n p a e1 e2 e3 e4 = rw (e1, e2, e3, e4)

-- the line of the first rule, and the tests, by what was read
abbrev pub line_read : SheetRead → ℕ
line_read r = first_line r.heads.fields r.heads.events r.heads.stages r.heads.miles

abbrev pub tests_read : SheetRead → Tests
tests_read r = tests_of r.rules r.heads.under r.heads.stages (line_read r)

-- what was read
pub record Read (s : List ℕ) (r : SheetRead) : Type 0 where
  pub sh : M.Sheet
  pub is : paper 1 sheet_bytes sheet s ≡ taken sh
  pub same : r ≡ sheet_tables sh

module _ (s : List ℕ) (p : Result SheetRead Wrong) (told : p ≡ as_sheet_read (paper 1 sheet_bytes sheet s)) where
  number_told_lem : (n q l : ℕ) → paper 1 sheet_bytes sheet s ≡ refused n q l → (1 ≤ n) × (n ≤ 10)
  unfolding read_sheet
  number_told_lem n q l e = let h = (sheet_tells s).told n q l (rw e) in (h.0, omega (arith, h.1))

  pub accept_refused : (w : Wrong) → p ≡ Err w → (k : ℕ) → k ≡ number_of w.fault → (q : Accepted) → q ≡ refused_sheet k w.line → q ≡ as_accepted (read_sheet s)
  unfolding read_sheet
  accept_refused w off k m q f = go (paper 1 sheet_bytes sheet s) refl
    where
      go : (x : Answer M.Sheet) → paper 1 sheet_bytes sheet s ≡ x → q ≡ as_accepted
          (on_taken (paper 1 sheet_bytes sheet s) (λ sh. accepted sh (testing_order sh)))
      go (taken sh) e = let z : ◌≡◌ {A = Result SheetRead Wrong} (Err w) (as_sheet_read (taken sh)) = sym off ∙ told ∙ ap as_sheet_read e in cc
      go (refused n o l) e =
          let z : ◌≡◌ {A = Result SheetRead Wrong} (Err w) (as_sheet_read (refused n o l)) = sym off ∙ told ∙ ap as_sheet_read e in
          let y : w ≡ wrong_of n l = cc in
          let h = number_told_lem n o l e in
          let number : k ≡ n = m ∙ ap (λ w. number_of w.fault) y ∙ number_again n h.0 h.1 in
          let line : w.line ≡ l = ap (λ w. w.line) y in
          f ∙ rw (number, line) (sym (rw e))

  module _ (r : SheetRead) (on : p ≡ Ok r) where
    read : Read s r
    read = go (paper 1 sheet_bytes sheet s) refl
      where
        go : (x : Answer M.Sheet) → paper 1 sheet_bytes sheet s ≡ x → Read s r
        go (taken sh) e =
            let z : ◌≡◌ {A = Result SheetRead Wrong} (Ok r) (as_sheet_read (taken sh)) = sym on ∙ told ∙ ap as_sheet_read e in
            record { sh = sh; is = e; same = cc }
        go (refused n o l) e = let z : ◌≡◌ {A = Result SheetRead Wrong} (Ok r) (as_sheet_read (refused n o l)) = sym on ∙ told ∙ ap as_sheet_read e in cc

    -- the sheet, and that it is well formed
    pub up : Read s r
    up = read

    pub well : Well up.sh
    well = paper_holds Well 1 sheet_bytes sheet s sheet_well up.sh up.is

    pub sum_is : r.heads.stages + r.heads.miles ≡ length (statuses up.sh.heads)
    unfolding as_heads statuses
    sum_is = ap (λ (r : SheetRead). r.heads.stages + r.heads.miles) up.same ∙ sym (length-append up.sh.heads.stages up.sh.heads.miles)

    fields_are : r.heads.fields ≡ length up.sh.heads.fields
    unfolding as_heads
    fields_are = ap (λ (r : SheetRead). r.heads.fields) up.same

    events_are : r.heads.events ≡ length up.sh.heads.events
    unfolding as_heads
    events_are = ap (λ (r : SheetRead). r.heads.events) up.same

    -- the words that were put
    pub words_are : (w : List ℕ) → w ≡ words_read (paper 1 sheet_bytes sheet s) → w ≡ padded word_room 0 (all_words up.sh.rules)
    words_are w put = put ∙ ap words_read up.is ∙ sets_padded (all_words up.sh.rules) (sheet_words s up.sh up.is)

    pub accept_words : (w : List ℕ) → w ≡ words_read (paper 1 sheet_bytes sheet s) → length w ≡ word_room
    accept_words w put = ap length (words_are w put) ∙ padded_length word_room 0 (all_words up.sh.rules) (sheet_words s up.sh up.is)

    pub accept_sum : Fits w64 (r.heads.stages + r.heads.miles)
    accept_sum = omega (arith, sum_is, well.heads.statuses_few)

    -- the rules stand behind a line for the model and one for each name
    line_is : line_read r ≡ rule_line up.sh.heads
    unfolding rule_line
    line_is = omega (arith, fields_are, events_are, sum_is)

    pub accept_ready : Ready r.rules (line_read r)
    accept_ready = tests_ready up.sh well r.rules (line_read r) (ap (λ (r : SheetRead). r.rules) up.same) line_is

    pub tests_told : (t : Tests) → t ≡ tests_read r → t ≡ as_tests (rows_of up.sh)
    unfolding as_heads
    tests_told t made_of = tests_are up.sh r.rules r.heads.under r.heads.stages (line_read r)
        (ap (λ (r : SheetRead). r.rules) up.same) (ap (λ (r : SheetRead). r.heads.under) up.same)
        (ap (λ (r : SheetRead). r.heads.stages) up.same) line_is t made_of

    module _ (k : ℕ) (sum : k ≡ r.heads.stages + r.heads.miles) where
      pub accept_few : k ≤ status_limit
      accept_few = omega (arith, sum_is, well.heads.statuses_few)

      pub accept_double : Fits w64 (k * 2)
      accept_double = omega (arith, accept_few)

      pub accept_nodes : k * 2 ≤ node_room
      accept_nodes = omega (arith, accept_few)

      module _ (t : Tests) (made_of : t ≡ tests_read r) (w : List ℕ) (put : w ≡ words_read (paper 1 sheet_bytes sheet s)) (f : Code.Option (List ℕ))
          (sorted : f ≡ as_sorting (order_for (k * 2) (tests_into w (take t.count t.rows)))) where
        pub order : f ≡ as_sorting (testing_order up.sh)
        order = order_is up.sh well t w (tests_told t made_of) (words_are w put) k (sum ∙ sum_is) f sorted

        pub accept_cycle : f ≡ None → (q : Accepted) → q ≡ refused_sheet CYCLE 0 → q ≡ as_accepted (read_sheet s)
        unfolding read_sheet
        accept_cycle z q g = g ∙ sym (rw (up.is, order_none up.sh f order z))

        pub accept_taken : (o : List ℕ) → f ≡ Some o → (n : ℕ) → n ≡ k * 2 → (p : Plan) → p ≡ as_plan (take t.count t.rows) o n
            → ◌≡◌ {A = Accepted} (record { number = 0; line = 0; heads = r.heads; words = w; top = r.rules.top; plan = p })
            (as_accepted (read_sheet s))
        unfolding read_sheet nodes as_rules padded
        accept_taken o z n double p g =
            let u = take (nodes up.sh.heads) o in
            let some_is : testing_order up.sh ≡ some u = order_some up.sh f order o z in
            let some_at : Some o ≡ Some (padded node_room 0 u) = sym z ∙ order ∙ ap as_sorting some_is in
            let order_at : o ≡ padded node_room 0 u = cc in
            let count : n ≡ length u = double ∙ ap (λ k. k * 2) (sum ∙ sum_is) ∙ sym (order_long up.sh u some_is) in
            let plan_is : p ≡ plan_for (rows_of up.sh) u = g
            ∙ ap (λ rows. as_plan rows o n) (ap (λ (t : Tests). take t.count t.rows) (tests_told t made_of) ∙ tests_taken (rows_of up.sh))
            ∙ ap₂ (as_plan (rows_of up.sh)) order_at count in
            made r.heads w r.rules.top p (record { sheet = up.sh; order = u })
            (ap (λ (r : SheetRead). r.heads) up.same) (words_are w put) (ap (λ (r : SheetRead). r.rules.top) up.same) plan_is
            ∙ sym (rw (up.is, some_is))

pub ruleset accepting =
    (accept_refused, accept_words, accept_sum, accept_few, accept_double, accept_nodes, accept_ready, accept_cycle, accept_taken)
