-- What callers use: on the tables of a sheet that was read, the rows are those of its tests, and each stands for its test.
use Prim.Native.Nat.{ℕ, zero, suc, ◌+◌, ◌-◌, ◌≤◌, ◌<◌}
use mathlib.Core.Path.{◌≡◌, refl, sym, ap, ap₂, ◌∙◌}
use mathlib.Core.Bool.{Bool, true, false, cond, true≢false, false≢true}
use mathlib.Core.List.{List, [], ◌∷◌, ◌++◌, map, map-append, append_assoc}
use mathlib.Core.Logic.{inl, inr}
use mathlib.Core.Option.{Option, none, some}
use native.Mathlib.Omega.{arith}
use native.Mathlib.Nat.{add-zero}
use lib.Dec.{eqb}
use lib.ListN.{length, length-map, get_or, take, drop}
use lib.Seq.{take_at, drop_at, drop-drop}
use Rattle.meaning.specs.Text.{In, keep, joined}
use Rattle.meaning.specs.Sheet.{Heads, Sheet, Status, Sign, plus, minus, Rule, statuses, stage_over}
use Rattle.meaning.specs.Tests as M
use Rattle.meaning.specs.Tests.{up, down, node, home_of, test_of, rule_tests, rule_line, closing, implied, tests}
use Rattle.meaning.specs.Dependency.{tests_for}
use Rattle.meaning.specs.Limits.{rule_limit, status_limit}
use Rattle.theory.specs.Papers.Formed.{Well}
use Rattle.theory.specs.Step.SheetTests as Tested
use Rattle.theory.specs.Lists.Padded.{padded, padded_at, padded_take}
use Rattle.limits.specs.Sizes.{test_room}
use Rattle.sheet_tables.specs.Heads.{under_code}
use Rattle.sheet_tables.proofs.Tables.{under_over}
use Rattle.sheet_tables.specs.Rules.{is_plus, as_trigger, words_of, as_rule, no_rule, as_rows, all_words, as_rules}
use Rattle.sheet_tables.specs.declared.Rules.{Rules}
use Rattle.sheet_tables.proofs.RuleRows.{rows_taken}
use Rattle.graph_tests.specs.declared.Test.{Test}
use Rattle.graph_tests.specs.declared.Tests.{Tests}
use Rattle.graph_tests.specs.Table.{no_test, rule_test, rule_rows, closing_row, closing_rows, as_tests, tests_of, rows_for, Ready}
use Rattle.graph_tests.specs.Answers.{test_row, test_rows, rows_of, Stands, Standing}

-- THE ROWS OF A SHEET

-- what a table holds, without what stands behind it
pub tests_taken : (ts : List Test) → take (as_tests ts).count (as_tests ts).rows ≡ ts
unfolding as_tests
tests_taken ts = padded_take test_room no_test ts

module _ (hd : Heads) (under : List ℕ) (over : (x : ℕ) → get_or under x 0 ≡ under_code (stage_over hd x)) where
  -- a rule's
  rule_row_lem : (l top : ℕ) (r : Rule) → rule_test under l (as_rule top r) ≡ test_row top (test_of hd l r)
  unfolding as_rule test_row test_of
  rule_row_lem l top r = go r.sign
    where
      go : (g : Sign)
          → ◌≡◌ {A = Test} (record {
            node = cond (is_plus g) (up r.status) (down r.status);
            home = cond (is_plus g) (get_or under r.status 0) 0;
            trigger =
                as_trigger r.trigger;
            from = top;
            to = top + length (words_of r.condition);
            line = l;
          })
          (record {
            node = node g r.status;
            home = under_code (home_of g (stage_over hd r.status));
            trigger = as_trigger r.trigger;
            from = top;
            to =
                top + length (words_of r.condition);
            line = l;
          })
      go plus = rw (over r.status)
      go minus = refl

  -- and those of all rules
  rule_rows_lem : (l top : ℕ) (rs : List Rule) → rule_rows under l (as_rows top rs) ≡ test_rows top (rule_tests hd l rs)
  unfolding rule_rows as_rows test_rows rule_tests test_of
  rule_rows_lem l top [] = refl
  rule_rows_lem l top (r ∷ rs) = ap₂ (λ t ts. t ∷ ts) (rule_row_lem l top r) (rule_rows_lem (suc l) (top + length (words_of r.condition)) rs)

-- a child stage's
closing_row_lem : (x : ℕ) (u : Option ℕ) → closing_row x (under_code u) ≡ map (test_row 0) (closing x u)
unfolding test_row words_of
closing_row_lem x none = refl
closing_row_lem x (some p) = refl

closing_rows_lem : (x : ℕ) (ss : List Status) → closing_rows x (map (λ s. under_code s.under) ss) ≡ map (test_row 0) (implied x ss)
unfolding closing_rows implied
closing_rows_lem x [] = refl
closing_rows_lem x (s ∷ ss) = ap₂ ◌++◌ (closing_row_lem x s.under) (closing_rows_lem (suc x) ss)
    ∙ sym (map-append (test_row 0) (closing x s.under) (implied (suc x) ss))

-- what stands over the stages
stages_taken : (hd : Heads) → take (length hd.stages) (padded status_limit 0 (map (λ s. under_code s.under) (statuses hd)))
    ≡ map (λ s. under_code s.under) hd.stages
unfolding padded statuses
stages_taken hd =
    let code : Status → ℕ = λ s. under_code s.under in
    rw (map-append code hd.stages hd.miles, append_assoc) (take_at (map code hd.stages) _ (length hd.stages) (length-map hd.stages code))

module _ (sh : Sheet) (rules : Rules) (under : List ℕ) (stages line : ℕ)
    (rules_are : rules ≡ as_rules sh.rules) (under_is : under ≡ padded status_limit 0 (map (λ s. under_code s.under) (statuses sh.heads)))
    (stages_are : stages ≡ length sh.heads.stages) (line_is : line ≡ rule_line sh.heads) where
  -- the rows are those of the sheet's tests
  pub tests_are : (r : Tests) → r ≡ tests_of rules under stages line → r ≡ as_tests (rows_of sh)
  unfolding tests_of rows_of
  tests_are r e =
      let over : (x : ℕ) → get_or under x 0 ≡ under_code (stage_over sh.heads x) = λ x. ap (λ u. get_or u x 0) under_is ∙ under_over sh.heads x in
      let rows : take rules.count rules.rows ≡ as_rows 0 sh.rules = ap (λ (t : Rules). take t.count t.rows) rules_are ∙ rows_taken sh.rules in
      let codes : take stages under ≡ map (λ s. under_code s.under) sh.heads.stages = ap₂ take stages_are under_is ∙ stages_taken sh.heads in
      e
      ∙ ap₂ (λ xs ys. as_tests (xs ++ ys))
      (ap₂ (rule_rows under) line_is rows ∙ rule_rows_lem sh.heads under over (rule_line sh.heads) 0 sh.rules)
      (ap (closing_rows 0) codes ∙ closing_rows_lem 0 sh.heads.stages)

-- a sheet that was read meets what is asked
pub tests_ready : (sh : Sheet) → Well sh → (rules : Rules) (line : ℕ) → rules ≡ as_rules sh.rules → line ≡ rule_line sh.heads → Ready rules line
unfolding as_rules as_rule as_rows rule_line
tests_ready sh w rules line rules_are line_is = record {
  statuses = λ i. rw (rules_are, padded_at rule_limit no_rule (as_rows 0 sh.rules) i) (below sh.rules 0 i (λ r m. (w.rules r m).status));
  lines = omega (arith, line_is, w.heads.fields_few, w.heads.events_few, w.heads.statuses_few);
}
  where
    below : (rs : List Rule) (top i : ℕ) → ((r : Rule) → In r rs → r.status < length (statuses sh.heads))
        → (get_or (as_rows top rs) i no_rule).status < status_limit
    below [] top i h = omega arith
    below (r ∷ rs) top zero h = omega (arith, h r (inl refl), w.heads.statuses_few)
    below (r ∷ rs) top (suc i) h = below rs (top + length (words_of r.condition)) i (λ q m. h q (inr m))

-- ROWS STAND FOR TESTS

-- one list behind another
standing_append : (ws : List ℕ) (ts : List M.Test) (rs : List Test) (us : List M.Test) (qs : List Test) → Standing ws ts rs → Standing ws us qs
    → Standing ws (ts ++ us) (rs ++ qs)
standing_append ws [] [] us qs s g = g
standing_append ws [] (r ∷ rs) us qs s g = absurd s
standing_append ws (t ∷ ts) [] us qs s g = absurd s
standing_append ws (t ∷ ts) (r ∷ rs) us qs s g = (s.0, standing_append ws ts rs us qs s.1 g)

-- as many rows as tests
pub standing_count : (ws : List ℕ) (ts : List M.Test) (rs : List Test) → Standing ws ts rs → length rs ≡ length ts
standing_count ws [] [] s = refl
standing_count ws [] (r ∷ rs) s = absurd s
standing_count ws (t ∷ ts) [] s = absurd s
standing_count ws (t ∷ ts) (r ∷ rs) s = ap suc (standing_count ws ts rs s.1)

-- the rows of a node stand for its tests
pub standing_for : (ws : List ℕ) (ts : List M.Test) (rs : List Test) (k : ℕ) → Standing ws ts rs → Standing ws (tests_for ts k) (rows_for rs k)
unfolding tests_for rows_for keep
standing_for ws [] [] k s = tt
standing_for ws [] (r ∷ rs) k s = absurd s
standing_for ws (t ∷ ts) [] k s = absurd s
standing_for ws (t ∷ ts) (r ∷ rs) k s = go (eqb t.node k) (eqb r.node k) (ap (λ n. eqb n k) s.0.node) (standing_for ws ts rs k s.1)
  where
    go : (b c : Bool) → c ≡ b → Standing ws (keep (λ t. eqb t.node k) ts) (keep (λ r. eqb r.node k) rs)
        → Standing ws (elim b [ true ↦ t ∷ keep (λ t. eqb t.node k) ts | false ↦ keep (λ t. eqb t.node k) ts ])
        (elim c [ true ↦ r ∷ keep (λ r. eqb r.node k) rs | false ↦ keep (λ r. eqb r.node k) rs ])
    go true true e g = (s.0, g)
    go true false e g = absurd (false≢true e)
    go false true e g = absurd (true≢false e)
    go false false e g = g

-- no words
none_words : (top : ℕ) → top ≡ top + length (words_of none)
unfolding words_of
none_words top = sym (add-zero top)

-- a row stands for the test whose row it is
row_stands : (ws : List ℕ) (top : ℕ) (t : M.Test) (rest : List ℕ) → t.needs ≡ none → drop top ws ≡ words_of t.condition ++ rest → Stands ws t (test_row top t)
unfolding test_row
row_stands ws top t rest n e = record {
  node = refl;
  needs = n;
  trigger = refl;
  home = refl;
  part =
      let words = words_of t.condition in
      let z : top + length words - top ≡ length words = omega arith in
      ap₂ take z e ∙ take_at words rest (length words) refl;
  bare = λ b. rw b (none_words top);
  line = refl;
}

-- the words of rules' conditions, one behind another
rules_stand : (ws : List ℕ) (hd : Heads) (l top : ℕ) (rs : List Rule) (rest : List ℕ) → drop top ws ≡ all_words rs ++ rest
    → Standing ws (rule_tests hd l rs) (test_rows top (rule_tests hd l rs))
unfolding rule_tests test_rows all_words joined test_of
rules_stand ws hd l top [] rest e = tt
rules_stand ws hd l top (r ∷ rs) rest e =
    let words = words_of r.condition in
    let here : drop top ws ≡ words ++ (all_words rs ++ rest) = e ∙ append_assoc words (all_words rs) rest in
    let behind : drop (top + length words) ws ≡ all_words rs ++ rest = sym (drop-drop (length words) top ws) ∙ ap (drop (length words)) here
    ∙ drop_at words (all_words rs ++ rest) (length words) refl in
    (row_stands ws top (test_of hd l r) (all_words rs ++ rest) refl here, rules_stand ws hd (suc l) (top + length words) rs rest behind)

closings_stand : (ws : List ℕ) (x : ℕ) (ss : List Status) → Standing ws (implied x ss) (map (test_row 0) (implied x ss))
unfolding implied words_of
closings_stand ws x [] = tt
closings_stand ws x (s ∷ ss) = go s.under (closings_stand ws (suc x) ss)
  where
    go : (u : Option ℕ) → Standing ws (implied (suc x) ss) (map (test_row 0) (implied (suc x) ss))
        → Standing ws (closing x u ++ implied (suc x) ss) (map (test_row 0) (closing x u ++ implied (suc x) ss))
    go none g = g
    go (some p) g = (row_stands ws 0 (M.closes x p) ws refl refl, g)

-- the rows of a sheet stand for its tests, with its words at the start of any
pub rows_stand : (sh : Sheet) (ws rest : List ℕ) → ws ≡ all_words sh.rules ++ rest → Standing ws (tests sh) (rows_of sh)
unfolding tests rows_of
rows_stand sh ws rest e =
    let ts = rule_tests sh.heads (rule_line sh.heads) sh.rules in
    let us = implied 0 sh.heads.stages in
    standing_append ws ts (test_rows 0 ts) us (map (test_row 0) us) (rules_stand ws sh.heads (rule_line sh.heads) 0 sh.rules rest e)
    (closings_stand ws 0 sh.heads.stages)

-- no more than a table holds
pub tests_few : (sh : Sheet) → Well sh → length (tests sh) ≤ test_room
tests_few sh w = omega (arith, Tested.tests_few sh w)
