-- The lines of a status, for the change that it could have made: what stops each, and which is the first that held.
use Rattle.std.specs.Prelude.{ℕ, suc, ◌+◌, ◌≤◌, ◌<◌, ◌≡◌, Bool, not, ◌&&◌, ◌↔◌, eqb, length}
use Rattle.std.proofs.Math.Path.{refl, ap, subst}
use Rattle.std.proofs.Common.{sym, ◌∙◌, inl, inr, length-append, eq-eqb}
use Rattle.std.proofs.Math.Bool.{true, false, cond}
use Rattle.std.proofs.lemmas.Bool.{false≢true}
use mathlib.Core.List.{List, [], ◌∷◌, ◌++◌}
use Rattle.std.proofs.Math.Option.{Option, none, some, some-ne-none, none-ne-some, some-injective}
use Rattle.std.proofs.Math.Logic.{⊎_elim}
use native.Mathlib.Omega.{arith}
use Rattle.meaning.specs.Text.{In, keep}
use Rattle.meaning.specs.Kleene.{Kleene, true₃, false₃, unknown, known₃, is_true}
use Rattle.meaning.specs.Sheet.{Heads, Sheet, Rule}
use Rattle.meaning.specs.Card.{is}
use Rattle.meaning.specs.Tests.{up, down, Test, test_of, rule_tests, rule_line, implied, tests}
use Rattle.meaning.specs.Dependency.{tests_for}
use Rattle.meaning.specs.Step.{Moment, allowed, needed, triggered, housed, condition_on, fulfilled, holds}
use Rattle.meaning.specs.Why.{Stop, trigger_not_met, home_not_open, condition_false, condition_unknown, Part, told_as, first_stop, change_of, parts_of, lines_for, first_that}
use Rattle.theory.specs.Lists.Members.{in_left, in_keep, keep_in, keep_append}
use Rattle.theory.specs.Step.Sides.{allowed_up, allowed_down}
use Rattle.theory.specs.Step.Tests.{test_of_lem}
use Rattle.theory.specs.Step.SheetTests.{rule_test_lem}

-- WHAT STOPS A LINE

-- all parts are true
abbrev pub AllTrue : List Part → Type 0
AllTrue ps = (p : Part) → In p ps → p.value ≡ true₃

-- a part that is told as nothing is true
untold_true : (p : Part) (v : Kleene) → told_as p v ≡ none → v ≡ true₃
untold_true p true₃ e = refl
untold_true p false₃ e = absurd (some-ne-none p.if_false e)
untold_true p unknown e = absurd (some-ne-none p.if_unknown e)

-- the parts before the one that is told, it, and those behind it
abbrev pub Stops : List Part → Stop → Type 0
Stops ps w =
    (earlier : List Part) × (part : Part) × (later : List Part) × (ps ≡ earlier ++ part ∷ later) × (told_as part part.value ≡ some w) × AllTrue earlier

-- the first thing that stops is such a part,
pub stop_first : (ps : List Part) (w : Stop) → first_stop ps ≡ some w → Stops ps w
unfolding first_stop
stop_first [] w e = absurd (none-ne-some w e)
stop_first (p ∷ ps) w e = go (told_as p p.value) refl e (stop_first ps w)
  where
    go : (o : Option Stop) → told_as p p.value ≡ o → ◌≡◌ {A = Option Stop} (elim o [ none ↦ first_stop ps | some v ↦ some v ]) (some w)
        → (first_stop ps ≡ some w → Stops ps w) → Stops (p ∷ ps) w
    go none q e ih =
        let (a, b, c, is, named, all) = ih e in
        (p ∷ a, b, c, ap (λ l. p ∷ l) is, named, λ r i. ⊎_elim (λ z. ap (λ (u : Part). u.value) z ∙ untold_true p p.value q) (all r) i)
    go (some v) q e ih = ([], p, ps, refl, q ∙ e, λ r i. absurd i)

-- and such a part is the first thing that stops
pub first_stop_lem : (earlier later : List Part) (part : Part) (w : Stop) → told_as part part.value ≡ some w → AllTrue earlier
    → first_stop (earlier ++ part ∷ later) ≡ some w
unfolding first_stop
first_stop_lem [] later part w e all = rw (e, first_stop)
first_stop_lem (p ∷ ps) later part w e all = rw (all p (inl refl), first_stop) (first_stop_lem ps later part w e (λ q i. all q (inr i)))

-- THE LINES OF A STATUS

-- the change that a status could have made is one that the before side allows,
pub change_allowed : (before : List Bool) (x : ℕ) → allowed before (change_of before x) ≡ true
change_allowed before x = go (is before x) refl
  where
    go : (b : Bool) → is before x ≡ b → allowed before (cond b (down x) (up x)) ≡ true
    go true e = allowed_down before x ∙ e
    go false e = allowed_up before x ∙ ap not e

-- and one of the status's two nodes
pub change_near : (before : List Bool) (x : ℕ) → (up x ≤ change_of before x) × (change_of before x ≤ down x)
change_near before x = go (is before x)
  where
    go : (b : Bool) → (up x ≤ cond b (down x) (up x)) × (cond b (down x) (up x) ≤ down x)
    go true = (omega arith, omega arith)
    go false = (omega arith, omega arith)

-- rules stand on one line after another
pub rule_lines : (hd : Heads) (l : ℕ) (rs : List Rule) (t : Test) → In t (rule_tests hd l rs) → (l ≤ t.line) × (t.line < l + length rs)
unfolding rule_tests test_of
rule_lines hd l [] t i = absurd i
rule_lines hd l (r ∷ rs) t (inl e) = let z : t.line ≡ l = ap (λ (w : Test). w.line) e in (omega arith, omega arith)
rule_lines hd l (r ∷ rs) t (inr i) = let (h, g) = rule_lines hd (suc l) rs t i in (omega arith, omega arith)

-- each on a line below those behind it
abbrev pub LinesUp : List Test → Type 0
LinesUp [] = Unit {0}
LinesUp (t ∷ ts) = ((u : Test) → In u ts → t.line < u.line) × LinesUp ts

pub rules_up : (hd : Heads) (l : ℕ) (rs : List Rule) → LinesUp (rule_tests hd l rs)
unfolding rule_tests test_of
rules_up hd l [] = tt
rules_up hd l (r ∷ rs) = (λ u i. (rule_lines hd (suc l) rs u i).0, rules_up hd (suc l) rs)

-- and so do some of them
pub keep_up : (p : Test → Bool) (ts : List Test) → LinesUp ts → LinesUp (keep p ts)
unfolding keep
keep_up p [] h = tt
keep_up p (t ∷ ts) h = go (p t) (keep_up p ts h.1)
  where
    go : (b : Bool) → LinesUp (keep p ts) → LinesUp (elim b [ true ↦ t ∷ keep p ts | false ↦ keep p ts ])
    go true ih = (λ u i. h.0 u (keep_in p u ts i).0, ih)
    go false ih = ih

-- the tests of the rules of a sheet
abbrev pub of_rules : Sheet → List Test
of_rules sh = rule_tests sh.heads (rule_line sh.heads) sh.rules

module _ (sh : Sheet) (m : Moment) (after : List Bool) where
  -- whether a test is for the change that the status x could have made
  abbrev for_change : ℕ → Test → Bool
  for_change x t = eqb t.node (change_of m.before x)

  -- a line is a rule for that change,
  pub line_of : (x : ℕ) (t : Test) → In t (lines_for sh m after x) → In t (of_rules sh) × (t.node ≡ change_of m.before x)
  unfolding lines_for
  line_of x t i = test_of_lem (of_rules sh) (change_of m.before x) t i

  -- and each such rule is a line
  pub of_line : (x : ℕ) (t : Test) → In t (of_rules sh) → t.node ≡ change_of m.before x → In t (lines_for sh m after x)
  unfolding lines_for tests_for
  of_line x t i e = in_keep (for_change x) t (of_rules sh) i (eq-eqb t.node (change_of m.before x) e)

  -- the tests for the change are the lines, and the closing if there is one
  tests_for_lem : (x : ℕ) → tests_for (tests sh) (change_of m.before x) ≡ lines_for sh m after x ++ keep (for_change x) (implied 0 sh.heads.stages)
  unfolding lines_for tests_for tests
  tests_for_lem x = keep_append (for_change x) (of_rules sh) (implied 0 sh.heads.stages)

  pub line_tests : (x : ℕ) (t : Test) → In t (lines_for sh m after x) → In t (tests_for (tests sh) (change_of m.before x))
  line_tests x t i = rw (tests_for_lem x) (in_left t (lines_for sh m after x) (keep (for_change x) (implied 0 sh.heads.stages)) i)

  pub lines_few : (x : ℕ) → length (lines_for sh m after x) ≤ length (tests_for (tests sh) (change_of m.before x))
  lines_few x = omega (arith, ap length (tests_for_lem x), length-append (lines_for sh m after x) (keep (for_change x) (implied 0 sh.heads.stages)))

  -- they stand on one line after another
  pub lines_up : (x : ℕ) → LinesUp (lines_for sh m after x)
  unfolding lines_for tests_for
  lines_up x = keep_up (for_change x) (of_rules sh) (rules_up sh.heads (rule_line sh.heads) sh.rules)

  -- nothing is asked of a line but its three parts
  line_free : (x : ℕ) (t : Test) → In t (lines_for sh m after x) → (allowed m.before t.node ≡ true) × (t.needs ≡ none)
  unfolding lines_for test_of
  line_free x t i =
      let (j, e) = line_of x t i in
      let (r, k, a, q) = rule_test_lem sh.heads sh.rules (rule_line sh.heads) t j in
      (rw e (change_allowed m.before x), ap (λ (w : Test). w.needs) q)

  -- so a line holds exactly where nothing stops it
  pub line_holds : (x : ℕ) (t : Test) → In t (lines_for sh m after x) → (first_stop (parts_of sh m after t) ≡ none) ↔ (holds m after t ≡ true)
  unfolding holds needed fulfilled first_stop parts_of
  line_holds x t i =
      let (a, n) = line_free x t i in rw (a, n) (go (triggered m after t.trigger) (housed m after t.home) (condition_on m after t.condition))
    where
      go : (a b : Bool) (k : Kleene) → (first_stop (record { value = known₃ a; if_false = trigger_not_met; if_unknown = trigger_not_met }
          ∷ record { value = known₃ b; if_false = home_not_open; if_unknown = home_not_open }
          ∷ record { value = k; if_false = condition_false; if_unknown = condition_unknown }
          ∷ []) ≡ none) ↔ (a && b && is_true k ≡ true)
      go true true true₃ = (λ e. refl, λ e. refl)
      go true true false₃ = (λ e. absurd (some-ne-none condition_false e), λ e. absurd (false≢true e))
      go true true unknown = (λ e. absurd (some-ne-none condition_unknown e), λ e. absurd (false≢true e))
      go true false k = (λ e. absurd (some-ne-none home_not_open e), λ e. absurd (false≢true e))
      go false b k = (λ e. absurd (some-ne-none trigger_not_met e), λ e. absurd (false≢true e))

  -- THE FIRST LINE THAT HELD

  -- it holds, and none on an earlier line does
  abbrev First : List Test → Test → Type 0
  First ts t = In t ts × (holds m after t ≡ true) × ((u : Test) → In u ts → u.line < t.line → holds m after u ≡ false)

  pub first_some : (ts : List Test) (t : Test) → LinesUp ts → first_that sh m after ts ≡ some t → First ts t
  unfolding first_that
  first_some [] t up e = absurd (none-ne-some t e)
  first_some (u ∷ us) t up e = go (holds m after u) refl e (first_some us t up.1)
    where
      go : (b : Bool) → holds m after u ≡ b → cond b (some u) (first_that sh m after us) ≡ some t → (first_that sh m after us ≡ some t → First us t)
          → First (u ∷ us) t
      go true h e ih =
          let q : u ≡ t = some-injective u t e in
          (inl (sym q), subst (λ w. holds m after w ≡ true) q h, λ v i l. absurd (at v i (subst (λ w. v.line < w.line) (sym q) l)))
        where
          at : (v : Test) → In v (u ∷ us) → v.line < u.line → ⊥
          at v (inl z) l = let y : v.line ≡ u.line = ap (λ (w : Test). w.line) z in omega arith
          at v (inr i) l = let y = up.0 v i in omega arith
      go false h e ih = let (i, g, n) = ih e in (inr i, g, λ v j l. ⊎_elim (λ z. subst (λ w. holds m after w ≡ false) (sym z) h) (λ j. n v j l) j)

  pub first_holds : (ts : List Test) (t : Test) → LinesUp ts → First ts t → first_that sh m after ts ≡ some t
  unfolding first_that
  first_holds [] t up (i, h, n) = absurd i
  first_holds (u ∷ us) t up (inl e, h, n) = rw (← e, h)
  first_holds (u ∷ us) t up (inr i, h, n) = rw (n u (inl refl) (up.0 t i)) (first_holds us t up.1 (i, h, λ v j l. n v (inr j) l))

  -- where none holds there is none, and the other way about
  pub none_holds : (ts : List Test) → ((u : Test) → In u ts → holds m after u ≡ false) → first_that sh m after ts ≡ none
  unfolding first_that
  none_holds [] h = refl
  none_holds (t ∷ ts) h = rw (h t (inl refl)) (none_holds ts (λ u i. h u (inr i)))

  pub first_none : (ts : List Test) → first_that sh m after ts ≡ none → (u : Test) → In u ts → holds m after u ≡ false
  unfolding first_that
  first_none [] e u i = absurd i
  first_none (t ∷ ts) e u i = go (holds m after t) refl e i (first_none ts)
    where
      go : (b : Bool) → holds m after t ≡ b → cond b (some t) (first_that sh m after ts) ≡ none → In u (t ∷ ts)
          → (first_that sh m after ts ≡ none → (u : Test) → In u ts → holds m after u ≡ false) → holds m after u ≡ false
      go true h e i ih = absurd (some-ne-none t e)
      go false h e (inl z) ih = rw z h
      go false h e (inr i) ih = ih e u i
