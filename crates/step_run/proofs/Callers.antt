-- What callers use: on rows that stand for tests, the run over their plan is what a list of nodes leads to.
use Prim.Native.Nat.{ℕ, zero, suc, ◌-◌, ◌*◌, ◌/◌, ◌≤◌, ◌<◌}
use mathlib.Core.Path.{◌≡◌, refl, sym, ap, ap₂, subst, ◌∙◌}
use mathlib.Core.Bool.{Bool, true, false, not, ◌&&◌, ◌||◌, cond, and-false}
use mathlib.Core.List.{List, [], ◌∷◌, ◌++◌, map}
use mathlib.Core.Logic.{inl, inr, ⊎_elim}
use mathlib.Core.Option.{Option, none, some}
use native.Mathlib.Omega.{arith}
use lib.ListN.{length, length-map, length-set, get_or, take, drop}
use Rattle.meaning.specs.Text.{In, any, joined}
use Rattle.meaning.specs.Graph.{Into, TestingOrder}
use Rattle.meaning.specs.Condition.{Cond}
use Rattle.meaning.specs.Sheet.{Sheet, Status, Rule, statuses}
use Rattle.meaning.specs.Tests as T
use Rattle.meaning.specs.Tests.{nodes, tests, closing, implied, rule_tests, rule_line, test_of}
use Rattle.meaning.specs.Dependency.{tests_for, predecessors}
use Rattle.meaning.specs.Step as M
use Rattle.meaning.specs.Step.{rising, allowed, holds, some_holds, set_if, run_on, leads_to}
use Rattle.meaning.specs.Limits.{status_limit}
use Rattle.theory.specs.Lists.Members.{Once, at_place, in_cases, map_set}
use Rattle.theory.specs.Graphs.Orders.{Sorted, sorted_from, order_only}
use Rattle.theory.specs.Papers.Formed.{Well}
use Rattle.theory.specs.Step.Tests.{test_of_lem}
use Rattle.theory.specs.Lists.Padded.{padded, padded_store, padded_take}
use Rattle.limits.specs.Sizes.{node_room, test_room}
use Rattle.cond_value.specs.Fits.{Fits}
use Rattle.sheet_tables.specs.Rules.{all_words}
use Rattle.marks.specs.Codes.{mark_code, marked}
use Rattle.marks.proofs.Callers.{mark_yes}
use Rattle.graph_tests.specs.declared.Test.{Test}
use Rattle.graph_tests.specs.Table.{rows_for}
use Rattle.graph_tests.specs.Answers.{rows_of, Standing}
use Rattle.graph_tests.proofs.Callers.{standing_count, standing_for, rows_stand, tests_few}
use Rattle.step_plan.specs.Plan.{listed_by, as_plan, plan_for}
use Rattle.step_plan.proofs.Callers.{listed_few, listed_suc, plan_end, plan_rows}
use Rattle.step_test.specs.Met.{test_met}
use Rattle.step_test.specs.Codes.{as_moment}
use Rattle.step_test.proofs.Callers.{FitsIf, holds_same}
use Rattle.step_run.specs.Run.{may_change, set_mark, start_of, rows_at, node_met, run_from, run_over}

-- A LIST OF NODES

-- the first that is left
drop_next : (o : List ℕ) (i k : ℕ) (rest : List ℕ) → drop i o ≡ k ∷ rest → (i < length o) × (get_or o i 0 ≡ k) × (drop (suc i) o ≡ rest)
drop_next [] zero k rest e = absurd (let z : ◌≡◌ {A = ℕ} 0 1 = cc in omega arith)
drop_next [] (suc i) k rest e = absurd (let z : ◌≡◌ {A = ℕ} 0 1 = cc in omega arith)
drop_next (x ∷ o) zero k rest e = (omega arith, cc, cc)
drop_next (x ∷ o) (suc i) k rest e = let (h, p, q) = drop_next o i k rest e in (omega arith, p, q)

-- a testing order has no repeats
pub order_once : (n : ℕ) (into : Into) (o : List ℕ) → TestingOrder n into o → Once o
order_once n into o t = go o (sorted_from n into o t)
  where
    go : (o : List ℕ) → Sorted into o → Once o
    go [] s = tt
    go (x ∷ o) s = (s.1, go o s.2)

set_length : (b : Bool) (k : ℕ) (half : List Bool) → length (set_if b k half) ≡ length half
unfolding set_if
set_length true k half = length-set half (k / 2) (rising k)
set_length false k half = refl

-- THE MARK OF A NODE

-- set
mark_set : (b : Bool) (k : ℕ) (half : List Bool) → k / 2 < length half → set_mark b k (marked half) ≡ marked (set_if b k half)
unfolding set_mark set_if marked
mark_set true k half h =
    padded_store status_limit 0 (map mark_code half) (k / 2) (mark_code (rising k)) (omega (arith, length-map half mark_code))
    ∙ ap (padded status_limit 0) (sym (map_set mark_code half (k / 2) (rising k)))
mark_set false k half h = refl

-- and read before
may_same : (before : List Bool) (k : ℕ) → may_change (marked before) k ≡ allowed before k
unfolding may_change allowed
may_same before k = ap (λ b. cond (rising k) (not b) b) (mark_yes before (k / 2))

-- THE TESTS OF A NODE

-- every condition is one that the machine values rightly
abbrev pub FitAll : List T.Test → Type 0
FitAll ts = (t : T.Test) → In t ts → FitsIf t.condition

module _ (m : M.Moment) (half : List Bool) (ws : List ℕ) where
  -- tests of the node k
  tests_same : (k : ℕ) (ts : List T.Test) (rs : List Test) → Standing ws ts rs → FitAll ts → ((t : T.Test) → In t ts → t.node ≡ k)
      → allowed m.before k && any (test_met ws (as_moment m) (marked half)) rs ≡ any (holds m half) ts
  unfolding any
  tests_same k [] [] s fits all = and-false (allowed m.before k)
  tests_same k [] (r ∷ rs) s fits all = absurd s
  tests_same k (t ∷ ts) [] s fits all = absurd s
  tests_same k (t ∷ ts) (r ∷ rs) s fits all =
      and_or (allowed m.before k) (test_met ws (as_moment m) (marked half) r) (any (test_met ws (as_moment m) (marked half)) rs)
      ∙ ap₂ ◌||◌
      (ap (λ n. allowed m.before n && test_met ws (as_moment m) (marked half) r) (sym (all t (inl refl)))
      ∙ holds_same m half ws t r s.0 (fits t (inl refl)))
      (tests_same k ts rs s.1 (λ q i. fits q (inr i)) (λ q i. all q (inr i)))
    where
      and_or : (a b c : Bool) → a && (b || c) ≡ (a && b) || (a && c)
      and_or true b c = refl
      and_or false b c = refl

  -- a node's test is the meaning's
  pub node_same : (k : ℕ) (ts : List T.Test) (rs : List Test) → Standing ws ts rs → FitAll ts
      → node_met ws (as_moment m) (marked half) k (rows_for rs k) ≡ some_holds m half ts k
  unfolding node_met some_holds
  node_same k ts rs s fits =
      ap (λ b. b && any (test_met ws (as_moment m) (marked half)) (rows_for rs k)) (may_same m.before k)
      ∙ tests_same k (tests_for ts k) (rows_for rs k) (standing_for ws ts rs k s) (λ t i. fits t (test_of_lem ts k t i).0) (λ t i. (test_of_lem ts k t i).1)

-- THE RUN

-- over any tests, and rows that stand for them
module _ (ts : List T.Test) (rs : List Test) (ws : List ℕ) (s : Standing ws ts rs) (fits : FitAll ts) (few_tests : length ts ≤ test_room)
    (o : List ℕ) (once : Once o) (n : ℕ) (only : (k : ℕ) → In k o → k < n) where
  few : length (listed_by rs o) ≤ test_room
  few = omega (arith, listed_few rs o once, standing_count ws ts rs s)

  taken : take (length o) (padded node_room 0 o) ≡ o
  taken = padded_take node_room 0 o

  start_at_lem : (i : ℕ) → i ≤ length o → start_of (plan_for rs o) i ≡ length (listed_by rs (take i o))
  unfolding listed_by joined
  start_at_lem zero h = refl
  start_at_lem (suc i) h = plan_end rs (padded node_room 0 o) (length o) o taken few i (omega arith)

  -- the rows at a place are those of its node
  pub rows_at_lem : (i : ℕ) → i < length o → rows_at (plan_for rs o) i ≡ rows_for rs (get_or o i 0)
  unfolding rows_at
  rows_at_lem i h =
      let p = plan_for rs o in
      let long : get_or p.ends i 0 - start_of p i ≡ length (rows_for rs (get_or o i 0)) =
      omega (arith, plan_end rs (padded node_room 0 o) (length o) o taken few i h, start_at_lem i (omega arith), listed_suc rs o i h) in
      ap₂ (λ n s. take n (drop s p.rows)) long (start_at_lem i (omega arith)) ∙ plan_rows rs (padded node_room 0 o) (length o) o taken few i h

  module _ (m : M.Moment) where
    run_same : (left : List ℕ) (i : ℕ) (half : List Bool) → drop i o ≡ left → n ≤ length half * 2
        → run_from ws (as_moment m) (plan_for rs o) i left (marked half) ≡ marked (run_on (λ half. some_holds m half ts) left half)
    unfolding run_from run_on
    run_same [] i half e full = refl
    run_same (k ∷ left) i half e full =
        let (h, is, rest) = drop_next o i k left e in
        let p = plan_for rs o in
        let test : Bool = some_holds m half ts k in
        let met : node_met ws (as_moment m) (marked half) k (rows_at p i) ≡ test =
        ap (node_met ws (as_moment m) (marked half) k) (rows_at_lem i h ∙ ap (rows_for rs) is) ∙ node_same m half ws k ts rs s fits in
        let below : k < n = only k (subst (λ x. In x o) is (at_place o i h)) in
        ap (λ b. run_from ws (as_moment m) p (suc i) left (set_mark b k (marked half))) met
        ∙ ap (run_from ws (as_moment m) p (suc i) left) (mark_set test k half (omega arith))
        ∙ run_same left (suc i) (set_if test k half) rest (rw (set_length test k half) full)

    -- with the before statuses at the start
    pub run_leads : n ≤ length m.before * 2 → run_over ws (as_moment m) (plan_for rs o) ≡ marked (leads_to ts m o)
    unfolding run_over leads_to as_plan
    run_leads full = ap (λ l. run_from ws (as_moment m) (plan_for rs o) 0 l (marked m.before)) taken ∙ run_same o 0 m.before refl full

-- A SHEET

-- the condition of every rule is one that the machine values rightly
abbrev pub AllFit : Sheet → Type 0
AllFit sh = (r : Rule) → In r sh.rules → (c : Cond) → r.condition ≡ some c → Fits c

-- so is that of every test
pub tests_fit : (sh : Sheet) → AllFit sh → FitAll (tests sh)
unfolding tests rule_tests test_of implied
tests_fit sh fits t i =
    ⊎_elim (rule_fits (rule_line sh.heads) sh.rules fits) (implied_fits 0 sh.heads.stages)
    (in_cases t (rule_tests sh.heads (rule_line sh.heads) sh.rules) (implied 0 sh.heads.stages) i)
  where
    rule_fits : (l : ℕ) (rs : List Rule) → ((r : Rule) → In r rs → FitsIf r.condition) → In t (rule_tests sh.heads l rs) → FitsIf t.condition
    rule_fits l [] h j = absurd j
    rule_fits l (r ∷ rs) h (inl e) = λ d c. h r (inl refl) d (sym (ap (λ (w : T.Test). w.condition) e) ∙ c)
    rule_fits l (r ∷ rs) h (inr j) = rule_fits (suc l) rs (λ q k. h q (inr k)) j

    bare_fits : (x : ℕ) (u : Option ℕ) → In t (closing x u) → FitsIf t.condition
    bare_fits x none j = absurd j
    bare_fits x (some p) (inl e) = λ d c. let q : none ≡ some d = sym (ap (λ (w : T.Test). w.condition) e) ∙ c in
        absurd (let z : ◌≡◌ {A = ℕ} 0 1 = cc in omega arith)
    bare_fits x (some p) (inr j) = absurd j

    implied_fits : (x : ℕ) (ss : List Status) → In t (implied x ss) → FitsIf t.condition
    implied_fits x [] j = absurd j
    implied_fits x (z ∷ ss) j = ⊎_elim (bare_fits x z.under) (implied_fits (suc x) ss) (in_cases t (closing x z.under) (implied (suc x) ss) j)

module _ (sh : Sheet) (w : Well sh) (fits : AllFit sh) (o : List ℕ) (once : Once o) (only : (k : ℕ) → In k o → k < nodes sh.heads)
    (m : M.Moment) (full : length m.before ≡ length (statuses sh.heads)) where
  -- the run over its plan, with its words at the start of any
  pub sheet_leads : (ws rest : List ℕ) → ws ≡ all_words sh.rules ++ rest
      → run_over ws (as_moment m) (plan_for (rows_of sh) o) ≡ marked (leads_to (tests sh) m o)
  unfolding nodes
  sheet_leads ws rest e =
      run_leads (tests sh) (rows_of sh) ws (rows_stand sh ws rest e) (tests_fit sh fits) (tests_few sh w) o once (nodes sh.heads) only m (omega (arith, full))

-- a testing order
pub order_leads : (sh : Sheet) → Well sh → AllFit sh → (o : List ℕ) → TestingOrder (nodes sh.heads) (predecessors (tests sh)) o → (m : M.Moment)
    → length m.before ≡ length (statuses sh.heads)
    → (ws rest : List ℕ) → ws ≡ all_words sh.rules ++ rest → run_over ws (as_moment m) (plan_for (rows_of sh) o) ≡ marked (leads_to (tests sh) m o)
order_leads sh w fits o t m full =
    let n = nodes sh.heads in
    sheet_leads sh w fits o (order_once n (predecessors (tests sh)) o t) (λ k i. order_only n (predecessors (tests sh)) o t k i) m full
