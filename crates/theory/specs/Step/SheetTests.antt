-- The tests of a well formed sheet of document 01: they name statuses of the sheet, guard its stages, have the leaves of its rules, and are few.
use Rattle.std.specs.Prelude.{ℕ, zero, suc, ◌+◌, ◌-◌, ◌*◌, ◌≤◌, ◌<◌, ◌≡◌, refl, List, [], ◌∷◌, ◌++◌, get_or}
use Rattle.std.proofs.Common.{sym, ◌∙◌, ap, append-nil, append_assoc, inl, inr}
use Rattle.std.proofs.Math.Path.{subst}
use Rattle.std.proofs.Math.Option.{Option, none, some}
use Rattle.std.proofs.Math.Logic.{⊎_elim}
use native.Mathlib.Omega.{arith}
use Rattle.std.proofs.Math.ListN.{length, length-append, get_or-append}
use Rattle.meaning.specs.Text.{In, joined}
use Rattle.meaning.specs.Sheet.{Heads, Sheet, Status, Sign, plus, minus, Rule, statuses, stage_over, leaves_of, leaves}
use Rattle.meaning.specs.Graph.{Inside}
use Rattle.meaning.specs.Tests.{up, down, nodes, node, Test, home_of, test_of, rule_tests, rule_line, closes, closing, implied, tests, leaves_in}
use Rattle.meaning.specs.Dependency.{predecessors}
use Rattle.theory.specs.Lists.Members.{in_cases, in_left, in_right}
use Rattle.theory.specs.Papers.Formed.{Each, UnderIn, Behind, StatusIn, RuleIn, Well, under_up}
use Rattle.theory.specs.Step.Edges.{TestIn, edges_inside}
use Rattle.theory.specs.Step.Shelter.{nowhere, Guards}

-- A TEST IS THAT OF A RULE, OR OF A CHILD STAGE

-- the tests of rules
pub rule_test_lem : (hd : Heads) (rs : List Rule) (l : ℕ) (t : Test) → In t (rule_tests hd l rs) → (r : Rule) × (k : ℕ) × In r rs × (t ≡ test_of hd k r)
unfolding rule_tests
rule_test_lem hd [] l t i = absurd i
rule_test_lem hd (r ∷ rs) l t (inl e) = (r, l, inl refl, e)
rule_test_lem hd (r ∷ rs) l t (inr i) = let (q, k, j, e) = rule_test_lem hd rs (suc l) t i in (q, k, inr j, e)

-- a child stage at the place i of some stages, which is stage y, and its parent
abbrev Child : ℕ → List Status → Test → Type 0
Child x ss t = (y i p : ℕ) × (y ≡ x + i) × (i < length ss) × ((get_or ss i nowhere).under ≡ some p) × (t ≡ closes y p)

-- the tests of child stages
implied_test : (ss : List Status) (x : ℕ) (t : Test) → In t (implied x ss) → Child x ss t
unfolding implied
implied_test [] x t h = absurd h
implied_test (s ∷ ss) x t h = ⊎_elim (at s.under refl) (later (implied_test ss (suc x) t)) (in_cases t (closing x s.under) (implied (suc x) ss) h)
  where
    at : (u : Option ℕ) → s.under ≡ u → In t (closing x u) → Child x (s ∷ ss) t
    at none e j = absurd j
    at (some p) e (inl q) = (x, 0, p, omega arith, omega arith, e, q)
    at (some p) e (inr j) = absurd j

    later : (In t (implied (suc x) ss) → Child (suc x) ss t) → In t (implied (suc x) ss) → Child x (s ∷ ss) t
    later f j = let (y, i, p, e, h, u, q) = f j in (y, suc i, p, omega arith, omega arith, u, q)

-- of all stages: the place is the stage's own
pub child_test : (ss : List Status) (t : Test) → In t (implied 0 ss) → (x p : ℕ) × (x < length ss) × ((get_or ss x nowhere).under ≡ some p) × (t ≡ closes x p)
child_test ss t h =
    let (y, i, p, e, l, u, q) = implied_test ss 0 t h in
    let z : i ≡ y = omega arith in
    (y, p, omega arith, rw z at u, q)

-- each child stage has its test
in_implied : (x : ℕ) (ss : List Status) (y i p : ℕ) → y ≡ x + i → i < length ss → (get_or ss i nowhere).under ≡ some p → In (closes y p) (implied x ss)
unfolding implied
in_implied x [] y i p q h e = absurd (omega arith)
in_implied x (s ∷ ss) y zero p q h e =
    let z : y ≡ x = omega arith in
    in_left (closes y p) (closing x s.under) (implied (suc x) ss) (rw e (inl (ap (λ w. closes w p) z)))
in_implied x (s ∷ ss) y (suc i) p q h e =
    in_right (closes y p) (closing x s.under) (implied (suc x) ss) (in_implied (suc x) ss y i p (omega arith) (omega arith) e)

module _ (sh : Sheet) (well : Well sh) where
  abbrev hd : Heads
  hd = sh.heads

  -- stages are statuses
  pub stages_few : length hd.stages ≤ length (statuses hd)
  unfolding statuses
  stages_few = omega (arith, length-append hd.stages hd.miles)

  -- what the status at a place is under
  under_of_lem : (k : ℕ) (ss : List Status) → Each (StatusIn k) ss → (x : ℕ) → UnderIn k (get_or ss x nowhere).under
  under_of_lem k [] h x = tt
  under_of_lem k (s ∷ ss) h zero = (h s (inl refl)).under
  under_of_lem k (s ∷ ss) h (suc x) = under_of_lem k ss (λ t i. h t (inr i)) x

  -- a parent or home is a status
  pub over_in : (x : ℕ) → UnderIn (length (statuses hd)) (stage_over hd x)
  unfolding stage_over statuses
  over_in x = under_up (length hd.stages) (length (hd.stages ++ hd.miles)) (stage_over hd x) (unfold statuses in stages_few)
      (under_of_lem (length hd.stages) (hd.stages ++ hd.miles) (λ s i. ⊎_elim (well.heads.stages s) (well.heads.miles s)
      (in_cases s hd.stages hd.miles i)) x)

  abbrev Tests : Test → Type 0
  Tests t = TestIn (length (statuses hd)) (length hd.fields) (length hd.events) t

  -- the test of a rule names statuses of the sheet,
  rule_in : (l : ℕ) (r : Rule) → RuleIn (length (statuses hd)) (length hd.fields) (length hd.events) r → Tests (test_of hd l r)
  unfolding test_of
  rule_in l r h = record { node = below r.sign; needs = tt; trigger = h.trigger; home = home r.sign; leaves = h.leaves }
    where
      below : (g : Sign) → node g r.status < length (statuses hd) * 2
      below plus = let q = h.status in omega arith
      below minus = let q = h.status in omega arith

      home : (g : Sign) → UnderIn (length (statuses hd)) (home_of g (stage_over hd r.status))
      home plus = over_in r.status
      home minus = tt

  -- and so does that of a child stage
  closes_in : (x p : ℕ) → x < length hd.stages → (get_or hd.stages x nowhere).under ≡ some p → Tests (closes x p)
  unfolding leaves_of
  closes_in x p h u =
      let few = stages_few in
      let q : p < length hd.stages = subst (UnderIn (length hd.stages)) u (under_of_lem (length hd.stages) hd.stages well.heads.stages x) in
      record { node = omega arith; needs = tt; trigger = omega arith; home = tt; leaves = λ y m. absurd m }

  pub tests_in : Each (TestIn (length (statuses hd)) (length hd.fields) (length hd.events)) (tests sh)
  unfolding tests
  tests_in t i = ⊎_elim
      (λ j. let (r, k, a, e) = rule_test_lem hd sh.rules (rule_line hd) t j in subst Tests (sym e) (rule_in k r (well.rules r a)))
      (λ j. let (x, p, h, u, e) = child_test hd.stages t j in subst Tests (sym e) (closes_in x p h u))
      (in_cases t (rule_tests hd (rule_line hd) sh.rules) (implied 0 hd.stages) i)

  -- so the edges of its graph lead from node to node
  pub sheet_inside : Inside (nodes sh.heads) (predecessors (tests sh))
  unfolding nodes
  sheet_inside = edges_inside (length (statuses hd)) (length hd.fields) (length hd.events) (tests sh) tests_in

-- THE PARENT RULE

-- a `+` rule of a stage asks for its parent, and a child stage closes with it
pub sheet_guards : (sh : Sheet) → Guards sh.heads.stages (tests sh)
unfolding tests stage_over statuses test_of
sheet_guards sh = record { asks = asks; shut = λ x p h u. in_right (closes x p) rules (implied 0 stages) (in_implied 0 stages x x p (omega arith) h u) }
  where
    stages : List Status
    stages = sh.heads.stages

    rules : List Test
    rules = rule_tests sh.heads (rule_line sh.heads) sh.rules

    signed : (g : Sign) (y x p : ℕ) → node g y ≡ up x → stage_over sh.heads x ≡ some p → home_of g (stage_over sh.heads y) ≡ some p
    signed plus y x p e o = let q : y ≡ x = omega arith in rw q o
    signed minus y x p e o = absurd (omega arith)

    asks : (x p : ℕ) → x < length stages → (get_or stages x nowhere).under ≡ some p → (t : Test) → In t (rules ++ implied 0 stages) → t.node ≡ up x
        → t.home ≡ some p
    asks x p h u t i n = ⊎_elim
        (λ j. let (r, k, a, e) = rule_test_lem sh.heads sh.rules (rule_line sh.heads) t j in
        ap (λ (w : Test). w.home) e ∙ signed r.sign r.status x p (sym (ap (λ (w : Test). w.node) e) ∙ n)
        (ap (λ (s : Status). s.under) (get_or-append stages sh.heads.miles nowhere x h) ∙ u))
        (λ j. let (y, q, a, b, e) = child_test stages t j in absurd (let z : down y ≡ up x = sym (ap (λ (w : Test). w.node) e) ∙ n in omega arith))
        (in_cases t rules (implied 0 stages) i)

-- THE LEAVES

-- an implied test has none
implied_bare : (x : ℕ) (ss : List Status) → joined (λ (t : Test). leaves_of t.condition) (implied x ss) ≡ []
unfolding implied joined leaves_of
implied_bare x [] = refl
implied_bare x (s ∷ ss) = at s.under (implied_bare (suc x) ss)
  where
    at : (u : Option ℕ) → joined (λ (t : Test). leaves_of t.condition) (implied (suc x) ss) ≡ []
        → joined (λ (t : Test). leaves_of t.condition) (closing x u ++ implied (suc x) ss) ≡ []
    at none e = e
    at (some p) e = e

rules_leaves : (hd : Heads) (l : ℕ) (rs : List Rule) (more : List Test)
    → joined (λ (t : Test). leaves_of t.condition) (rule_tests hd l rs ++ more) ≡ leaves rs ++ joined (λ (t : Test). leaves_of t.condition) more
unfolding rule_tests joined leaves test_of
rules_leaves hd l [] more = refl
rules_leaves hd l (r ∷ rs) more =
    ap (λ w. leaves_of r.condition ++ w) (rules_leaves hd (suc l) rs more) ∙ sym
    (append_assoc (leaves_of r.condition) (leaves rs) (joined (λ (t : Test). leaves_of t.condition) more))

-- the leaves of the tests are those of the rules
pub leaves_same : (sh : Sheet) → leaves_in (tests sh) ≡ leaves sh.rules
unfolding leaves_in tests
leaves_same sh =
    rules_leaves sh.heads (rule_line sh.heads) sh.rules (implied 0 sh.heads.stages) ∙ ap
    (λ w. leaves sh.rules ++ w) (implied_bare 0 sh.heads.stages) ∙ append-nil (leaves sh.rules)

-- HOW MANY THERE ARE

rules_count : (hd : Heads) (l : ℕ) (rs : List Rule) → length (rule_tests hd l rs) ≡ length rs
unfolding rule_tests
rules_count hd l [] = refl
rules_count hd l (r ∷ rs) = ap suc (rules_count hd (suc l) rs)

implied_few : (x : ℕ) (ss : List Status) → length (implied x ss) ≤ length ss
unfolding implied
implied_few x [] = omega arith
implied_few x (s ∷ ss) = go s.under (implied_few (suc x) ss)
  where
    go : (u : Option ℕ) → length (implied (suc x) ss) ≤ length ss → length (closing x u ++ implied (suc x) ss) ≤ suc (length ss)
    go none h = omega arith
    go (some p) h = omega arith

-- the first stage has no parent
children_few : (ss : List Status) → Behind 0 ss → length (implied 0 ss) ≤ length ss - 1
unfolding implied
children_few [] h = omega arith
children_few (s ∷ ss) h = go s.under h.0 (implied_few 1 ss)
  where
    go : (u : Option ℕ) → UnderIn 0 u → length (implied 1 ss) ≤ length ss → length (closing 0 u ++ implied 1 ss) ≤ suc (length ss) - 1
    go none h g = omega arith
    go (some p) h g = absurd (omega arith)

-- "rule lines and child stages together (128 + 31)"
pub tests_few : (sh : Sheet) → Well sh → length (tests sh) ≤ 159
unfolding tests statuses
tests_few sh w = omega (
  arith,
  length-append (rule_tests sh.heads (rule_line sh.heads) sh.rules) (implied 0 sh.heads.stages),
  rules_count sh.heads (rule_line sh.heads) sh.rules,
  children_few sh.heads.stages w.heads.parents,
  w.rules_few,
  w.heads.statuses_few,
  length-append sh.heads.stages sh.heads.miles,
)
