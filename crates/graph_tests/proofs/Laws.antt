-- Laws of the functions: no tests, the tests of all rules, and the closings behind them.
use Prim.Native.Nat.{ℕ, zero, suc, ◌+◌, ◌-◌, ◌≤◌, ◌<◌, min}
use mathlib.Core.Path.{◌≡◌, refl, sym, ap, ap₂, ◌∙◌}
use mathlib.Core.List.{List, [], ◌∷◌, ◌++◌}
use native.Mathlib.Omega.{arith}
use native.Mathlib.Nat.{add-zero}
use native.Mathlib.Numerals.{add-one}
use lib.ListN.{length, length-take, length-append, drop_of_length-le, get_or, take, drop, set, replicate}
use lib.Seq.{sets, drop-cons, get_or-take}
use Rattle.meaning.specs.Limits.{rule_limit, status_limit}
use Rattle.theory.specs.Lists.Padded.{padded, take_low, padded_sets, laid}
use Rattle.limits.specs.Sizes.{test_room}
use Rattle.sheet_tables.specs.declared.Rule.{Rule}
use Rattle.sheet_tables.specs.Rules.{no_rule}
use Rattle.sheet_tables.specs.declared.Rules.{Rules}
use Rattle.graph_tests.specs.declared.Test.{Test}
use Rattle.graph_tests.specs.declared.Tests.{Tests}
use Rattle.graph_tests.specs.Table.{no_test, rule_test, closes, rule_rows, closing_row, closing_rows, as_tests, behind, tests_of, Ready}

-- TABLES

-- what stands within a list does not hang on what reads behind it
get_d_any : {A : Type 0} (xs : List A) (i : ℕ) (d e : A) → i < length xs → get_or xs i d ≡ get_or xs i e
get_d_any [] i d e h = absurd (omega arith)
get_d_any (x ∷ xs) zero d e h = refl
get_d_any (x ∷ xs) (suc i) d e h = get_d_any xs i d e (omega arith)

-- NO TEST

pub none_behind : (t : Test) → t ≡ no_test → record { rows = replicate test_room t; count = 0 } ≡ as_tests []
unfolding as_tests padded
none_behind t e = ap (λ (t : Test). record { rows = replicate test_room t; count = 0 }) e

-- THE TESTS OF THE RULES

rows_count : (under : List ℕ) (l : ℕ) (rs : List Rule) → length (rule_rows under l rs) ≡ length rs
unfolding rule_rows
rows_count under l [] = refl
rows_count under l (r ∷ rs) = ap suc (rows_count under (suc l) rs)

-- the loop over the rules: what is still to come
pub record Ruling (under : List ℕ) (line : ℕ) (rules : Rules) (count : ℕ) (rows : List Test) (i : ℕ) : Type 0 where
  pub within : i ≤ count
  pub low : count ≡ min rules.count rule_limit
  pub long : length rules.rows ≡ rule_limit
  pub same : sets (replicate test_room no_test) 0 (rule_rows under line (take count rules.rows))
      ≡ sets rows i (rule_rows under (line + i) (drop i (take count rules.rows)))

pub ruling_start : (under : List ℕ) (line : ℕ) (rules : Rules) (count : ℕ) (t : Test) → length rules.rows ≡ rule_limit
    → count ≡ min rules.count rule_limit → t ≡ no_test
    → Ruling under line rules count (replicate test_room t) 0
ruling_start under line rules count t h e n = rw n (record {
  within = omega arith;
  low = e;
  long = h;
  same = ap (λ l. sets (replicate test_room no_test) 0 (rule_rows under l (take count rules.rows))) (sym (add-zero line));
})

module _ (under : List ℕ) (line : ℕ) (rules : Rules) (count : ℕ) (rows : List Test) (i : ℕ) (inv : Ruling under line rules count rows i) where
  -- the rule at the place
  next_rule : (d : Rule) → i < count → drop i (take count rules.rows) ≡ get_or rules.rows i d ∷ drop (suc i) (take count rules.rows)
  next_rule d h =
      drop-cons (take count rules.rows) i d (rw length-take (omega (arith, inv.low, inv.long)))
      ∙ ap (λ x. x ∷ drop (suc i) (take count rules.rows)) (get_or-take count rules.rows i d h)

  module _ (ready : Ready rules line) (h : i < count) where
    pub ruling_status : (d : Rule) → (get_or rules.rows i d).status < status_limit
    ruling_status d =
        let e : get_or rules.rows i d ≡ get_or rules.rows i no_rule = get_d_any rules.rows i d no_rule (omega (arith, inv.low, inv.long)) in
        rw e (ready.statuses i)

    pub ruling_next : (d : Rule) (n : ℕ) → n ≡ line + i → (t : Test) → t ≡ rule_test under n (get_or rules.rows i d) → (j : ℕ) → j ≡ i + 1
        → Ruling under line rules count (set rows i t) j
    unfolding rule_rows
    ruling_next d n e t is j z = rw (z, add-one) (record {
      within = omega arith;
      low = inv.low;
      long = inv.long;
      same =
          let more : line + suc i ≡ suc n = omega arith in
          inv.same
          ∙ ap₂ (λ l rs. sets rows i (rule_rows under l rs)) (sym e) (next_rule d h)
          ∙ ap₂ (λ x l. sets (set rows i x) (suc i) (rule_rows under l (drop (suc i) (take count rules.rows)))) (sym is) (sym more);
    })

  -- all of them stand
  ruling_laid : count ≤ i → record { rows = rows; count = count } ≡ as_tests (rule_rows under line (take count rules.rows))
  unfolding as_tests rule_rows
  ruling_laid h =
      let all = take count rules.rows in
      let many : length (rule_rows under line all) ≡ count = rows_count under line all ∙ length-take count rules.rows ∙ omega (arith, inv.low, inv.long) in
      let none : drop i all ≡ [] = drop_of_length-le all {i = i} (rw length-take (omega arith)) in
      ap₂ (λ (r : List Test) n. record { rows = r; count = n })
      (sym (inv.same ∙ ap (λ rs. sets rows i (rule_rows under (line + i) rs)) none)
      ∙ laid test_room no_test (rule_rows under line all) (omega (arith, inv.low)))
      (sym many)

  pub ruling_done : count ≤ i → record { rows = rows; count = count } ≡ as_tests (rule_rows under line (take rules.count rules.rows))
  ruling_done h = ruling_laid h
      ∙ ap (λ rs. as_tests (rule_rows under line rs)) (ap (λ n. take n rules.rows) inv.low ∙ take_low rule_limit rules.count rules.rows inv.long)

pub ruleset ruling = (ruling_start, ruling_status, ruling_next, ruling_done)

-- THE CLOSINGS

-- at most one for each stage
closings_few : (x : ℕ) (us : List ℕ) → length (closing_rows x us) ≤ length us
unfolding closing_rows
closings_few x [] = omega arith
closings_few x (zero ∷ us) = omega (arith, closings_few (suc x) us)
closings_few x (suc p ∷ us) = omega (arith, closings_few (suc x) us)

-- the loop over the stages: what is still to come
pub record Closing (under : List ℕ) (last : ℕ) (before now : Tests) (x : ℕ) : Type 0 where
  pub within : x ≤ last
  pub few : last ≤ status_limit
  pub long : length under ≡ status_limit
  pub counted : now.count ≤ rule_limit + x
  pub same : behind before (closing_rows 0 (take last under)) ≡ behind now (closing_rows x (drop x (take last under)))

pub closing_start : (under : List ℕ) (stages last : ℕ) (tests : Tests) → length under ≡ status_limit → last ≡ min stages status_limit
    → tests.count ≤ rule_limit → Closing under last tests tests 0
closing_start under stages last tests l e h = record { within = omega arith; few = omega arith; long = l; counted = omega arith; same = refl }

module _ (under : List ℕ) (last : ℕ) (before now : Tests) (x : ℕ) (inv : Closing under last before now x) where
  -- the stage at the place
  next_stage : x < last → drop x (take last under) ≡ get_or under x 0 ∷ drop (suc x) (take last under)
  next_stage h = drop-cons (take last under) x 0 (rw length-take (omega (arith, inv.few, inv.long)))
      ∙ ap (λ c. c ∷ drop (suc x) (take last under)) (get_or-take last under x 0 h)

  pub closing_stage : x < last → x < status_limit
  closing_stage h = omega (arith, inv.few)

  pub closing_room : x < last → now.count < test_room
  closing_room h = omega (arith, inv.counted, inv.few)

  module _ (h : x < last) (y : ℕ) (z : y ≡ x + 1) (after : Tests) where
    pub closing_none : (1 ≤ get_or under x 0 → ⊥) → after ≡ now → Closing under last before after y
    unfolding closing_rows
    closing_none ne is = rw (z, is, add-one) (record {
      within = omega arith;
      few = inv.few;
      long = inv.long;
      counted = omega (arith, inv.counted);
      same =
          inv.same
          ∙ ap (λ us. behind now (closing_rows x us)) (next_stage h)
          ∙ ap (λ c. behind now (closing_row x c ++ closing_rows (suc x) (drop (suc x) (take last under)))) e;
    })
      where
        e : get_or under x 0 ≡ 0
        e = omega arith

    pub closing_put : (p : ℕ) → (1 ≤ get_or under x 0) × (p ≡ get_or under x 0 - 1) → (t : Test) → t ≡ closes x p
        → after ≡ record { rows = set now.rows now.count t; count = now.count + 1 } → Closing under last before after y
    unfolding closing_rows
    closing_put p some t is put = rw (z, put, add-one x, add-one now.count) (record {
      within = omega arith;
      few = inv.few;
      long = inv.long;
      counted = omega (arith, inv.counted);
      same =
          let rest = closing_rows (suc x) (drop (suc x) (take last under)) in
          let sum : now.count + suc (length rest) ≡ suc now.count + length rest = omega arith in
          inv.same
          ∙ ap (λ us. behind now (closing_rows x us)) (next_stage h)
          ∙ ap (λ c. behind now (closing_row x c ++ rest)) e
          ∙ ap₂ (λ (t : Test) k. record { rows = sets (set now.rows now.count t) (suc now.count) rest; count = k }) (sym is) sum;
    })
      where
        e : get_or under x 0 ≡ suc p
        e = omega arith

pub closing_done : (under : List ℕ) (stages last : ℕ) (before now : Tests) (x : ℕ) → Closing under last before now x → last ≡ min stages status_limit → last ≤ x
    → now ≡ behind before (closing_rows 0 (take stages under))
unfolding closing_rows
closing_done under stages last before now x inv e h =
    let none : drop x (take last under) ≡ [] = drop_of_length-le (take last under) {i = x} (rw length-take (omega arith)) in
    sym (ap (λ us. behind before (closing_rows 0 us)) (sym (take_low status_limit stages under inv.long) ∙ ap (λ n. take n under) (sym e))
    ∙ inv.same
    ∙ ap (λ us. behind now (closing_rows x us)) none
    ∙ ap (λ n. record { rows = now.rows; count = n }) (add-zero now.count))

pub ruleset shutting = (closing_start, closing_stage, closing_none, closing_room, closing_put, closing_done)

-- ALL TESTS

pub rules_few : (rules : Rules) (under : List ℕ) (line : ℕ) (t : Tests) → length rules.rows ≡ rule_limit
    → t ≡ as_tests (rule_rows under line (take rules.count rules.rows)) → t.count ≤ rule_limit
unfolding as_tests
rules_few rules under line t h e =
    let rs = take rules.count rules.rows in
    omega (arith, ap (λ (t : Tests). t.count) e, rows_count under line rs, length-take rules.count rules.rows)

pub all_tests : (rules : Rules) (under : List ℕ) (stages line : ℕ) (t r : Tests) → length rules.rows ≡ rule_limit
    → length under ≡ status_limit
    → t ≡ as_tests (rule_rows under line (take rules.count rules.rows)) → r ≡ behind t (closing_rows 0 (take stages under))
    → r ≡ tests_of rules under stages line
unfolding tests_of as_tests
all_tests rules under stages line t r h l e is =
    let rs = take rules.count rules.rows in
    let xs = rule_rows under line rs in
    let ys = closing_rows 0 (take stages under) in
    let few : length xs + length ys ≤ test_room =
    omega (
      arith,
      rows_count under line rs,
      length-take rules.count rules.rows,
      closings_few 0 (take stages under),
      length-take stages under,
    ) in
    is
    ∙ ap (λ (t : Tests). behind t ys) e
    ∙ ap₂ (λ (w : List Test) n. record { rows = w; count = n }) (padded_sets test_room no_test ys xs few) (sym (length-append xs ys))

pub ruleset gathering = (rules_few, all_tests)
