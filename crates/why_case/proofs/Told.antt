-- Rows that stand for tests: what is told of them is what the meaning tells of their lines.
use Prim.Native.Nat.{ℕ, ◌+◌, ◌*◌, ◌/◌, ◌%◌, ◌<◌}
use mathlib.Core.Path.{◌≡◌, refl, sym, ◌∙◌, ap, ap₂}
use mathlib.Core.Bool.{Bool, true, false, not, ◌&&◌, cond, false≢true}
use mathlib.Core.List.{List, [], ◌∷◌, ◌++◌, map, append-nil}
use mathlib.Core.Logic.{inl, inr}
use mathlib.Core.Option.{Option, none, some}
use native.Mathlib.Omega.{arith}
use borrow.Author.Tests.{eq-eqb, ne_eqb}
use lib.Dec.{eqb, ltb}
use lib.ListN.{get_or}
use Rattle.std.specs.Prelude.{is_none}
use Rattle.meaning.specs.Text.{In, keep, joined}
use Rattle.meaning.specs.Sheet.{Sheet}
use Rattle.meaning.specs.Card.{is}
use Rattle.meaning.specs.Tests as T
use Rattle.meaning.specs.Tests.{up, down, rule_tests, rule_line, implied, tests}
use Rattle.meaning.specs.Dependency.{tests_for}
use Rattle.meaning.specs.Step as M
use Rattle.meaning.specs.Step.{rising, allowed, holds, changes}
use Rattle.meaning.specs.Why.{Stop, kind_number, stopped, trigger_not_met, home_not_open, condition_false, condition_unknown, first_stop, parts_of, change_of, changed, first_that}
use Rattle.theory.specs.Lists.Members.{keep_append, keep_all, keep_none, keep_in}
use Rattle.theory.specs.Step.SheetTests.{child_test}
use Rattle.theory.specs.Why.Stops.{rule_lines}
use Rattle.marks.specs.Codes.{mark_code, marked}
use Rattle.marks.proofs.Callers.{mark_at_lem, mark_yes}
use Rattle.graph_tests.specs.declared.Test.{Test}
use Rattle.graph_tests.specs.Answers.{Stands, Standing}
use Rattle.step_test.specs.Codes.{as_moment, as_stopped}
use Rattle.step_test.proofs.Callers.{FitsIf, stop_same, holds_unstopped}
use Rattle.step_run.proofs.Callers.{FitAll}
use Rattle.why_case.specs.Reasons.{kind_code, row_told, node_of, first_held, stops}
use Rattle.why_case.proofs.Laws.{keep_hit, keep_miss}

-- WRITTEN LINES

-- an implied test stands on no line
abbrev pub written : T.Test → Bool
written t = not (eqb t.line 0)

-- of the tests of a node those of rules are written, and the implied ones are not
pub sheet_written : (sh : Sheet) (k : ℕ) → keep written (tests_for (tests sh) k) ≡ tests_for (rule_tests sh.heads (rule_line sh.heads) sh.rules) k
unfolding tests tests_for rule_line
sheet_written sh k =
    ap (keep written) (keep_append of rules closings)
    ∙ keep_append written (keep of rules) (keep of closings)
    ∙ ap₂ ◌++◌ (keep_all written (keep of rules) (λ t i. stands t (keep_in of t rules i).0))
    (keep_none written (keep of closings) (λ t i. stands_not t (keep_in of t closings i).0))
    ∙ append-nil (keep of rules)
  where
    of : T.Test → Bool
    of t = eqb t.node k

    rules : List T.Test
    rules = rule_tests sh.heads (rule_line sh.heads) sh.rules

    closings : List T.Test
    closings = implied 0 sh.heads.stages

    stands : (t : T.Test) → In t rules → written t ≡ true
    stands t i = rw (ne_eqb t.line 0 (λ z. omega (arith, (rule_lines sh.heads (rule_line sh.heads) sh.rules t i).0)))

    stands_not : (t : T.Test) → In t closings → written t ≡ false
    stands_not t i = let (x, p, h, u, e) = child_test sh.heads.stages t i in ap written e

-- THE CHANGE THAT A STATUS COULD HAVE MADE

-- it is the meaning's,
pub node_same : (before : List Bool) (x : ℕ) → node_of (marked before) x ≡ change_of before x
node_same before x = ap (λ b. cond b (down x) (up x)) (mark_yes before x)

-- and made where the marks differ
pub changed_same : (sh : Sheet) (m : M.Moment) (after : List Bool) (x : ℕ)
    → not (eqb (get_or (marked m.before) x 0) (get_or (marked after) x 0)) ≡ changed sh m after x
unfolding changed changes rising
changed_same sh m after x = rw (mark_at_lem m.before x, mark_at_lem after x) (go (is m.before x) (is after x) refl refl)
  where
    go : (a b : Bool) → is m.before x ≡ a → is after x ≡ b → not (eqb (mark_code a) (mark_code b)) ≡ changes m.before after (cond a (down x) (up x))
    go true b e f =
        let odd : eqb (down x % 2) 0 ≡ false = ne_eqb (down x % 2) 0 (λ z. omega arith) in
        let half : down x / 2 ≡ x = omega arith in
        rw (odd, half, e, f) (fallen b)
      where
        fallen : (b : Bool) → not (eqb 2 (mark_code b)) ≡ true && not b
        fallen true = refl
        fallen false = refl
    go false b e f =
        let even : eqb (up x % 2) 0 ≡ true = eq-eqb (up x % 2) 0 (omega arith) in
        let half : up x / 2 ≡ x = omega arith in
        rw (even, half, e, f) (risen b)
      where
        risen : (b : Bool) → not (eqb 0 (mark_code b)) ≡ not false && b
        risen true = refl
        risen false = refl

-- WHAT IS TOLD OF ROWS

-- the first that held
abbrev pub held_code : ℕ → Option T.Test → ℕ
held_code other none = other
held_code other (some t) = t.line * 10 + 1

-- what stopped one
abbrev pub stop_list : ℕ → Option Stop → List ℕ
stop_list l none = []
stop_list l (some w) = (l * 10 + kind_number (stopped w)) ∷ []

-- a kind is the last digit
digit : (l k : ℕ) → k < 10 → (l * 10 + k) % 10 ≡ k
digit l k h = omega arith

kind_low : (w : Option Stop) → kind_code (as_stopped w) < 10
kind_low none = omega arith
kind_low (some trigger_not_met) = omega arith
kind_low (some home_not_open) = omega arith
kind_low (some condition_false) = omega arith
kind_low (some condition_unknown) = omega arith

held_digit : (w : Option Stop) → eqb (kind_code (as_stopped w)) 1 ≡ is_none (as_stopped w)
held_digit none = refl
held_digit (some trigger_not_met) = refl
held_digit (some home_not_open) = refl
held_digit (some condition_false) = refl
held_digit (some condition_unknown) = refl

stop_digit : (w : Option Stop) (l : ℕ) → cond (ltb 1 (kind_code (as_stopped w))) ((l * 10 + kind_code (as_stopped w)) ∷ []) [] ≡ stop_list l w
stop_digit none l = refl
stop_digit (some trigger_not_met) l = refl
stop_digit (some home_not_open) l = refl
stop_digit (some condition_false) l = refl
stop_digit (some condition_unknown) l = refl

held_one : (w : Option Stop) → is_none (as_stopped w) ≡ true → kind_code (as_stopped w) ≡ 1
held_one none e = refl
held_one (some trigger_not_met) e = absurd (false≢true e)
held_one (some home_not_open) e = absurd (false≢true e)
held_one (some condition_false) e = absurd (false≢true e)
held_one (some condition_unknown) e = absurd (false≢true e)

module _ (sh : Sheet) (m : M.Moment) (side : List Bool) (ws : List ℕ) (k : ℕ) (may : allowed m.before k ≡ true) where
  abbrev tells : Test → ℕ
  tells = row_told ws (as_moment m) (marked side)

  -- what stopped a test
  abbrev stop : T.Test → Option Stop
  stop t = first_stop (parts_of sh m side t)

  -- the row of one test
  module _ (t : T.Test) (r : Test) (s : Stands ws t r) (fits : FitsIf t.condition) (of : t.node ≡ k) where
    told_as_lem : tells r ≡ cond (eqb t.line 0) 0 (t.line * 10 + kind_code (as_stopped (stop t)))
    unfolding row_told
    told_as_lem = ap₂ (λ l n. cond (eqb l 0) 0 (l * 10 + kind_code n)) s.line (stop_same m side ws t r s fits sh)

    told_holds : holds m side t ≡ is_none (as_stopped (stop t))
    told_holds = holds_unstopped m side ws t r s fits (rw of may) ∙ ap is_none (stop_same m side ws t r s fits sh)

    -- that of an implied test
    implied_told : eqb t.line 0 ≡ true → tells r ≡ 0
    implied_told e = told_as_lem ∙ rw e

    -- and that of a written line
    module _ (e : eqb t.line 0 ≡ false) where
      written_told : tells r ≡ t.line * 10 + kind_code (as_stopped (stop t))
      written_told = told_as_lem ∙ rw e

      told_digit : tells r % 10 ≡ kind_code (as_stopped (stop t))
      told_digit = ap (λ n. n % 10) written_told ∙ digit t.line (kind_code (as_stopped (stop t))) (kind_low (stop t))

    -- before others
    module _ (ts : List T.Test) (cs : List ℕ) where
      first_more : (other : ℕ) → first_held cs other ≡ held_code other (first_that sh m side (keep written ts))
          → first_held (tells r ∷ cs) other ≡ held_code other (first_that sh m side (keep written (t ∷ ts)))
      unfolding first_held first_that
      first_more other later = go (eqb t.line 0) refl
        where
          held : (b : Bool) → is_none (as_stopped (stop t)) ≡ b → eqb t.line 0 ≡ false
              → cond b (tells r) (first_held cs other) ≡ held_code other (cond b (some t) (first_that sh m side (keep written ts)))
          held true q e = written_told e ∙ ap (λ n. t.line * 10 + n) (held_one (stop t) q)
          held false q e = later

          go : (b : Bool) → eqb t.line 0 ≡ b → cond (eqb (tells r % 10) 1) (tells r) (first_held cs other)
              ≡ held_code other (first_that sh m side (keep written (t ∷ ts)))
          go true e =
              ap (λ c. cond (eqb (c % 10) 1) c (first_held cs other)) (implied_told e)
              ∙ later
              ∙ ap (λ l. held_code other (first_that sh m side l)) (sym (keep_miss written t ts (rw e)))
          go false e =
              ap (λ b. cond b (tells r) (first_held cs other)) (ap (λ d. eqb d 1) (told_digit e) ∙ held_digit (stop t))
              ∙ held (is_none (as_stopped (stop t))) refl e
              ∙ ap (λ b. held_code other (cond b (some t) (first_that sh m side (keep written ts)))) (sym told_holds)
              ∙ ap (λ l. held_code other (first_that sh m side l)) (sym (keep_hit written t ts (rw e)))

      stops_told_more : stops cs ≡ joined (λ t. stop_list t.line (stop t)) (keep written ts)
          → stops (tells r ∷ cs) ≡ joined (λ t. stop_list t.line (stop t)) (keep written (t ∷ ts))
      unfolding stops joined
      stops_told_more later = go (eqb t.line 0) refl
        where
          one : (c : ℕ) (b : Bool) → ltb 1 (c % 10) ≡ b → stops (c ∷ cs) ≡ cond b (c ∷ []) [] ++ stops cs
          one c true e = keep_hit (λ c. ltb 1 (c % 10)) c cs e
          one c false e = keep_miss (λ c. ltb 1 (c % 10)) c cs e

          go : (b : Bool) → eqb t.line 0 ≡ b → stops (tells r ∷ cs) ≡ joined (λ t. stop_list t.line (stop t)) (keep written (t ∷ ts))
          go true e =
              one (tells r) false (ap (λ c. ltb 1 (c % 10)) (implied_told e))
              ∙ later
              ∙ ap (joined (λ t. stop_list t.line (stop t))) (sym (keep_miss written t ts (rw e)))
          go false e =
              one (tells r) (ltb 1 (kind_code (as_stopped (stop t)))) (ap (ltb 1) (told_digit e))
              ∙ ap (λ c. cond (ltb 1 (kind_code (as_stopped (stop t)))) (c ∷ []) [] ++ stops cs) (written_told e)
              ∙ ap₂ ◌++◌ (stop_digit (stop t) t.line) later
              ∙ ap (joined (λ t. stop_list t.line (stop t))) (sym (keep_hit written t ts (rw e)))

  -- the first row that held stands for the first line that did
  pub first_told : (ts : List T.Test) (rs : List Test) → Standing ws ts rs → FitAll ts → ((t : T.Test) → In t ts → t.node ≡ k) → (other : ℕ)
      → first_held (map tells rs) other ≡ held_code other (first_that sh m side (keep written ts))
  unfolding first_held first_that keep
  first_told [] [] s fits all other = refl
  first_told [] (r ∷ rs) s fits all other = absurd s
  first_told (t ∷ ts) [] s fits all other = absurd s
  first_told (t ∷ ts) (r ∷ rs) s fits all other =
      first_more t r s.0 (fits t (inl refl)) (all t (inl refl)) ts (map tells rs) other
      (first_told ts rs s.1 (λ q i. fits q (inr i)) (λ q i. all q (inr i)) other)

  -- and the rows that were stopped for the lines that were
  pub stops_told : (ts : List T.Test) (rs : List Test) → Standing ws ts rs → FitAll ts → ((t : T.Test) → In t ts → t.node ≡ k)
      → stops (map tells rs) ≡ joined (λ t. stop_list t.line (first_stop (parts_of sh m side t))) (keep written ts)
  unfolding stops joined keep
  stops_told [] [] s fits all = refl
  stops_told [] (r ∷ rs) s fits all = absurd s
  stops_told (t ∷ ts) [] s fits all = absurd s
  stops_told (t ∷ ts) (r ∷ rs) s fits all =
      stops_told_more t r s.0 (fits t (inl refl)) (all t (inl refl)) ts (map tells rs)
      (stops_told ts rs s.1 (λ q i. fits q (inr i)) (λ q i. all q (inr i)))
