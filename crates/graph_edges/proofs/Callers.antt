-- What a caller may conclude: rows that stand for tests give their graph, and so a sheet's rows its testing order, its circle and the lines of its edges.
use Prim.Native.Nat.{ℕ, suc, ◌+◌, ◌-◌, ◌*◌, ◌/◌, ◌%◌, ◌≤◌, ◌<◌}
use mathlib.Core.Path.{◌≡◌, refl, ◌∙◌, ap, ap₂, fun_ext}
use mathlib.Core.Bool.{Bool, true, false, not, cond, ◌&&◌}
use mathlib.Core.List.{List, [], ◌∷◌, ◌++◌}
use mathlib.Core.Logic.{inl, inr}
use mathlib.Core.Option.{Option, none, some}
use native.Mathlib.Omega.{arith}
use lib.Dec.{eqb}
use lib.ListN.{length, take, replicate}
use borrow.Author.Tests.{lt-ltb, le-ltb, le-leb, eq-eqb, ne_eqb}
use Rattle.meaning.specs.Text.{In, is_in, keep, joined}
use Rattle.meaning.specs.Condition.{Operator, below, at_most, equal, at_least, above, Leaf, Cond}
use Rattle.meaning.specs.Sheet as M
use Rattle.meaning.specs.Sheet.{Heads, Sheet, statuses, leaves_of}
use Rattle.meaning.specs.Graph.{order_for}
use Rattle.meaning.specs.Tests as T
use Rattle.meaning.specs.Tests.{both, nodes, rule_tests, rule_line, status_line, implied, tests}
use Rattle.meaning.specs.Dependency.{from_trigger, from_leaf, from_home, sources, tests_for, predecessors, testing_order}
use Rattle.meaning.specs.Circle.{lines_to, first_from, line_or, edge_line}
use Rattle.meaning.specs.Limits.{status_limit}
use Rattle.theory.specs.Lists.Members.{keep_append}
use Rattle.theory.specs.Papers.Conditions.{LeafIn, LeavesIn}
use Rattle.theory.specs.Papers.Formed.{Well}
use Rattle.theory.specs.Step.Tests.{test_of_lem}
use Rattle.theory.specs.Why.Stops.{rule_lines}
use Rattle.theory.specs.Step.SheetTests.{child_test, tests_in}
use Rattle.theory.specs.Lists.Padded.{padded}
use Rattle.limits.specs.Sizes.{word_room}
use Rattle.sheet_tables.specs.Heads.{under_code}
use Rattle.cond_value.specs.Flat.{word, bit, comparison_word, leaf_word}
use Rattle.cond_value.proofs.Leaves.{words_leaves}
use Rattle.sheet_tables.specs.Rules.{as_trigger, words_of, all_words}
use Rattle.graph_tests.specs.declared.Test.{Test}
use Rattle.graph_tests.specs.declared.Tests.{Tests}
use Rattle.graph_tests.specs.Table.{rows_for, as_tests}
use Rattle.graph_tests.specs.Answers.{rows_of, Stands, Standing}
use Rattle.graph_tests.proofs.Callers.{standing_for, rows_stand, tests_taken}
use Rattle.std.specs.Prelude as Code
use Rattle.std.specs.Prelude.{Some, None}
use Rattle.graph_order.specs.Answers.{as_sorting}
use Rattle.graph_order.proofs.Callers.{sort_none, sort_some}
use Rattle.graph_edges.specs.Edges.{trigger_nodes, word_nodes, home_nodes, test_nodes, tests_into, line_from}

-- THE WORDS OF A CONDITION NAME THE STATUSES OF ITS LEAVES

-- a status, of kind 2 or 3
status_of_lem : (kind x : ℕ) → x < status_limit → 2 ≤ kind → kind < 4 → word_nodes (word kind x 0) ≡ both x
unfolding word
status_of_lem kind x h g l =
    let w : ℕ = kind + 8 * (x + 32 * 0) in
    let k : w % 8 ≡ kind = omega arith in
    let d : w / 8 ≡ x = omega arith in
    let z : x % 32 ≡ x = omega arith in
    rw (le-leb 2 (w % 8) (omega arith), lt-ltb (w % 8) 4 (omega arith)) (ap both (ap (λ q. q % 32) d ∙ z))

status_word : (neg : Bool) (x : ℕ) → x < status_limit → word_nodes (word (2 + bit neg) x 0) ≡ both x
unfolding word
status_word true x h = status_of_lem 3 x h (omega arith) (omega arith)
status_word false x h = status_of_lem 2 x h (omega arith) (omega arith)

-- a comparison, of a kind from 4 on
field_word : (kind x n : ℕ) → 4 ≤ kind → kind < 8 → word_nodes (word kind x n) ≡ []
unfolding word
field_word kind x n h g =
    let w : ℕ = kind + 8 * (x + 32 * n) in
    let k : w % 8 ≡ kind = omega arith in
    rw (le-leb 2 (w % 8) (omega arith), le-ltb (w % 8) 4 (omega arith))

low_word : (neg : Bool) (x n : ℕ) → word_nodes (word (4 + bit neg) x n) ≡ []
low_word true x n = field_word 5 x n (omega arith) (omega arith)
low_word false x n = field_word 4 x n (omega arith) (omega arith)

same_word : (neg : Bool) (x n : ℕ) → word_nodes (word (6 + bit neg) x n) ≡ []
same_word true x n = field_word 7 x n (omega arith) (omega arith)
same_word false x n = field_word 6 x n (omega arith) (omega arith)

comparison_word_lem : (neg : Bool) (f : ℕ) (o : Operator) (k : ℕ) → word_nodes (comparison_word neg f o k) ≡ []
unfolding comparison_word
comparison_word_lem neg f below k = low_word neg f (suc k)
comparison_word_lem neg f at_most k = low_word neg f (suc (suc k))
comparison_word_lem neg f equal k = same_word neg f (suc k)
comparison_word_lem neg f at_least k = low_word (not neg) f (suc k)
comparison_word_lem neg f above k = low_word (not neg) f (suc (suc k))

-- a joining word
join_word : (k : Bool) → word_nodes (bit k) ≡ []
join_word true = refl
join_word false = refl

module _ (n m : ℕ) (few : n ≤ status_limit) where
  leaf_word_lem : (neg : Bool) (x : Leaf) → LeafIn n m x → word_nodes (leaf_word neg x) ≡ from_leaf x
  unfolding leaf_word from_leaf
  leaf_word_lem neg (Leaf.status x) h = status_word neg x (omega arith)
  leaf_word_lem neg (Leaf.compare c) h = comparison_word_lem neg c.field c.operator c.number

  -- of a condition, if there is one
  condition_nodes : (c : Option Cond) → LeavesIn n m (leaves_of c) → joined word_nodes (words_of c) ≡ joined from_leaf (leaves_of c)
  unfolding words_of leaves_of joined
  condition_nodes none h = refl
  condition_nodes (some c) h = words_leaves word_nodes from_leaf join_word c (λ neg x i. leaf_word_lem neg x (h x i))

-- A ROW GIVES THE EDGES OF ITS TEST

trigger_same : (t : M.Trigger) → trigger_nodes (as_trigger t) ≡ from_trigger t
unfolding from_trigger
trigger_same M.Trigger.always = refl
trigger_same (M.Trigger.event e) = refl
trigger_same (M.Trigger.rise y) = refl
trigger_same (M.Trigger.fall y) = refl

home_same : (u : Option ℕ) → home_nodes (under_code u) ≡ from_home u
unfolding from_home
home_same none = refl
home_same (some p) = refl

module _ (n m : ℕ) (few : n ≤ status_limit) (ws : List ℕ) where
  -- conditions that name statuses and fields of the sheet
  abbrev Leaves : List T.Test → Type 0
  Leaves ts = (t : T.Test) → In t ts → LeavesIn n m (leaves_of t.condition)

  test_same : (t : T.Test) (r : Test) → Stands ws t r → LeavesIn n m (leaves_of t.condition) → test_nodes ws r ≡ sources t
  unfolding test_nodes sources
  test_same t r s h =
      ap₂ (λ x y. x ++ y)
      (ap₂ (λ x y. x ++ y) (ap trigger_nodes s.trigger ∙ trigger_same t.trigger)
      (ap (joined word_nodes) s.part ∙ condition_nodes n m few t.condition h))
      (ap home_nodes s.home ∙ home_same t.home)

  tests_same : (ts : List T.Test) (rs : List Test) → Standing ws ts rs → Leaves ts → joined (test_nodes ws) rs ≡ joined sources ts
  unfolding joined
  tests_same [] [] s h = refl
  tests_same [] (r ∷ rs) s h = absurd s
  tests_same (t ∷ ts) [] s h = absurd s
  tests_same (t ∷ ts) (r ∷ rs) s h = ap₂ (λ x y. x ++ y) (test_same t r s.0 (h t (inl refl))) (tests_same ts rs s.1 (λ q i. h q (inr i)))

  -- rows that stand for tests give their graph, node for node
  pub into_same : (ts : List T.Test) (rs : List Test) → Standing ws ts rs → Leaves ts → (k : ℕ) → tests_into ws rs k ≡ predecessors ts k
  unfolding tests_into predecessors
  into_same ts rs s h k = tests_same (tests_for ts k) (rows_for rs k) (standing_for ws ts rs k s) (λ t i. h t (test_of_lem ts k t i).0)

-- THE LINE OF AN EDGE

-- the line of a test, 0 for none
abbrev line_in : Option T.Test → ℕ
line_in none = 0
line_in (some t) = t.line

-- the first of some tests, or else of others
abbrev or_else : Option T.Test → Option T.Test → Option T.Test
or_else none o = o
or_else (some t) o = some t

first_append : (p : ℕ) (xs ys : List T.Test) → first_from p (xs ++ ys) ≡ or_else (first_from p xs) (first_from p ys)
unfolding first_from
first_append p [] ys = refl
first_append p (x ∷ xs) ys = go (is_in p (sources x)) (first_append p xs ys)
  where
    go : (b : Bool) → first_from p (xs ++ ys) ≡ or_else (first_from p xs) (first_from p ys)
        → cond b (some x) (first_from p (xs ++ ys)) ≡ or_else (cond b (some x) (first_from p xs)) (first_from p ys)
    go true e = refl
    go false e = e

-- what every test has, the first has
abbrev Having : (T.Test → Type 0) → Option T.Test → Type 0
Having P none = Unit {0}
Having P (some t) = P t

first_has : (P : T.Test → Type 0) (p : ℕ) (ts : List T.Test) → ((t : T.Test) → In t ts → P t) → Having P (first_from p ts)
unfolding first_from
first_has P p [] h = tt
first_has P p (t ∷ ts) h = go (is_in p (sources t)) (first_has P p ts (λ q i. h q (inr i)))
  where
    go : (b : Bool) → Having P (first_from p ts) → Having P (cond b (some t) (first_from p ts))
    go true g = h t (inl refl)
    go false g = g

-- rows that stand for tests give the line of the first test
module _ (n m : ℕ) (few : n ≤ status_limit) (ws : List ℕ) (p k : ℕ) where
  line_same : (ts : List T.Test) (rs : List Test) → Standing ws ts rs → Leaves n m few ws ts → line_from ws rs p k ≡ line_in (first_from p (tests_for ts k))
  unfolding line_from first_from tests_for keep
  line_same [] [] s h = refl
  line_same [] (r ∷ rs) s h = absurd s
  line_same (t ∷ ts) [] s h = absurd s
  line_same (t ∷ ts) (r ∷ rs) s h =
      rw (test_same n m few ws t r s.0 (h t (inl refl)), s.0.node, s.0.line)
      (go (eqb t.node k) (line_same ts rs s.1 (λ q i. h q (inr i))))
    where
      after : List T.Test
      after = keep (λ q. eqb q.node k) ts

      here : (b : Bool) → line_from ws rs p k ≡ line_in (first_from p after)
          → cond b t.line (line_from ws rs p k) ≡ line_in (cond b (some t) (first_from p after))
      here true e = refl
      here false e = e

      go : (a : Bool) → line_from ws rs p k ≡ line_in (first_from p after)
          → cond (a && is_in p (sources t)) t.line (line_from ws rs p k) ≡ line_in (first_from p (elim a [ true ↦ t ∷ after | false ↦ after ]))
      go true e = here (is_in p (sources t)) e
      go false e = e

-- those of a sheet: a rule's line is told itself, and without one the line of the status
told_line : (hd : Heads) (k : ℕ) (f g : Option T.Test) → Having (λ t. 2 ≤ t.line) f → Having (λ t. t.line ≡ 0) g → (l : ℕ) → l ≡ line_in (or_else f g)
    → cond (eqb l 0) (status_line hd (k / 2)) l ≡ line_or hd k f
told_line hd k none none a b l e = rw (eq-eqb l 0 e)
told_line hd k none (some t) a b l e = rw (eq-eqb l 0 (e ∙ b))
told_line hd k (some t) g a b l e = rw (ne_eqb l 0 (λ z. omega arith)) e

-- THE ROWS OF A SHEET

module _ (sh : Sheet) (well : Well sh) (table : Tests) (ws : List ℕ) (tests_are : table ≡ as_tests (rows_of sh)) where
  rows_are : take table.count table.rows ≡ rows_of sh
  rows_are = ap (λ (t : Tests). take t.count t.rows) tests_are ∙ tests_taken (rows_of sh)

  -- with its words at the start of any
  pub words_into : (rest : List ℕ) → ws ≡ all_words sh.rules ++ rest → (k : ℕ)
      → tests_into ws (take table.count table.rows) k ≡ predecessors (tests sh) k
  words_into rest words_are k =
      ap (λ rs. tests_into ws rs k) rows_are
      ∙ into_same (length (statuses sh.heads)) (length sh.heads.fields) well.heads.statuses_few ws (tests sh) (rows_of sh)
      (rows_stand sh ws rest words_are) (λ t i. (tests_in sh well t i).leaves) k

  -- so the answer is the order of the sheet
  pub words_order : (rest : List ℕ) → ws ≡ all_words sh.rules ++ rest → (n : ℕ) → n ≡ length (statuses sh.heads) → (r : Code.Option (List ℕ))
      → r ≡ as_sorting (order_for (n * 2) (tests_into ws (take table.count table.rows))) → r ≡ as_sorting (testing_order sh)
  unfolding testing_order nodes
  words_order rest words_are n few r e = e ∙ ap₂ (λ m into. as_sorting (order_for (m * 2) into)) few (fun_ext (words_into rest words_are))

  -- the same of words that fill the array for them
  pub order_is : ws ≡ padded word_room 0 (all_words sh.rules) → (n : ℕ) → n ≡ length (statuses sh.heads) → (r : Code.Option (List ℕ))
      → r ≡ as_sorting (order_for (n * 2) (tests_into ws (take table.count table.rows))) → r ≡ as_sorting (testing_order sh)
  unfolding padded
  order_is words_are = words_order (replicate (word_room - length (all_words sh.rules)) 0) words_are

  -- the line of an edge is that of the first rule that gives it; where no rule does, that of the node's status
  pub words_line : (rest : List ℕ) → ws ≡ all_words sh.rules ++ rest → (p k l : ℕ) → l ≡ line_from ws (take table.count table.rows) p k
      → cond (eqb l 0) (status_line sh.heads (k / 2)) l ≡ edge_line sh (record { from = p; to = k })
  unfolding edge_line lines_to tests_for tests rule_line
  words_line rest words_are p k l e =
      told_line sh.heads k (first_from p (tests_for rules k)) (first_from p (tests_for closings k))
      (first_has (λ t. 2 ≤ t.line) p (tests_for rules k) (λ t i. late t (test_of_lem rules k t i).0))
      (first_has (λ t. t.line ≡ 0) p (tests_for closings k) (λ t i. unlined t (test_of_lem closings k t i).0))
      l
      (e ∙ ap (λ rs. line_from ws rs p k) rows_are
      ∙ line_same (length (statuses sh.heads)) (length sh.heads.fields) well.heads.statuses_few ws p k (tests sh) (rows_of sh)
      (rows_stand sh ws rest words_are) (λ t i. (tests_in sh well t i).leaves)
      ∙ ap line_in (ap (first_from p) (keep_append (λ t. eqb t.node k) rules closings) ∙ first_append p (tests_for rules k) (tests_for closings k)))
    where
      rules : List T.Test
      rules = rule_tests sh.heads (rule_line sh.heads) sh.rules

      closings : List T.Test
      closings = implied 0 sh.heads.stages

      late : (t : T.Test) → In t rules → 2 ≤ t.line
      late t i = let h = (rule_lines sh.heads (rule_line sh.heads) sh.rules t i).0 in omega arith

      unlined : (t : T.Test) → In t closings → t.line ≡ 0
      unlined t i = let (x, u, l, o, e) = child_test sh.heads.stages t i in ap (λ (q : T.Test). q.line) e

  pub line_is : ws ≡ padded word_room 0 (all_words sh.rules) → (p k l : ℕ) → l ≡ line_from ws (take table.count table.rows) p k
      → cond (eqb l 0) (status_line sh.heads (k / 2)) l ≡ edge_line sh (record { from = p; to = k })
  unfolding padded
  line_is words_are = words_line (replicate (word_room - length (all_words sh.rules)) 0) words_are

-- what the answer says of the sheet
module _ (sh : Sheet) (r : Code.Option (List ℕ)) (is : r ≡ as_sorting (testing_order sh)) where
  pub order_none : r ≡ None → testing_order sh ≡ none
  unfolding testing_order
  order_none = sort_none (nodes sh.heads) (predecessors (tests sh)) r is

  pub order_some : (order : List ℕ) → r ≡ Some order → testing_order sh ≡ some (take (nodes sh.heads) order)
  unfolding testing_order
  order_some = sort_some (nodes sh.heads) (predecessors (tests sh)) r is
