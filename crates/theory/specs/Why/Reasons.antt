-- What is told of one status: what is computed of it is meant, and what is meant of it is computed; and how many reasons that is.
use Rattle.std.specs.Prelude.{ℕ, ◌≤◌, ◌<◌, ◌≡◌, Bool, cond}
use Rattle.std.proofs.Math.Path.{refl, ap}
use Rattle.std.proofs.Common.{sym, ◌∙◌, subst, true≢false, inl, inr}
use Rattle.std.proofs.Math.Bool.{true, false}
use mathlib.Core.List.{List, [], ◌∷◌, map}
use Rattle.std.proofs.Math.Option.{Option, none, some}
use Rattle.std.proofs.Math.Logic.{⊎_elim}
use native.Mathlib.Omega.{arith}
use Rattle.std.proofs.Math.ListN.{length, length-map, get_or-append}
use Rattle.meaning.specs.Text.{In, joined}
use Rattle.meaning.specs.Sheet.{Sheet, Status, statuses, stage_over}
use Rattle.meaning.specs.Tests.{Test, closes, implied, tests}
use Rattle.meaning.specs.Dependency.{tests_for}
use Rattle.meaning.specs.Step.{Moment, fell, triggered, holds, some_holds, Meets}
use Rattle.meaning.specs.Why.{Stop, Kind, held, closed, stopped, Reason, first_stop, change_of, parts_of, lines_for, changed, Says, first_that, closed_by, changed_by, stopped_by, reasons_of}
use Rattle.theory.specs.Lists.Members.{in_some, in_cases, in_joined, joined_in, in_any, any_in}
use Rattle.theory.specs.Step.Tests.{holds_parts, test_of_lem}
use Rattle.theory.specs.Step.Shelter.{nowhere}
use Rattle.theory.specs.Step.SheetTests.{child_test}
use Rattle.theory.specs.Why.Stops.{stop_first, first_stop_lem, change_near, of_rules, of_line, line_tests, lines_few, lines_up, line_holds, first_some, first_holds, none_holds, first_none}

module _ (sh : Sheet) (m : Moment) (after : List Bool) where
  -- what a line of a status that did not change gives
  abbrev pub stop_of : ℕ → Test → List Reason
  stop_of x t = stopped_by sh m after x t.line (first_stop (parts_of sh m after t))

  -- WHAT IS KNOWN OF ITS LINES

  module _ (meets : Meets (tests sh) m after) where
    -- a status changed exactly where a test for its change holds
    pub changed_holds : (x : ℕ) → x < length m.before → changed sh m after x ≡ some_holds m after (tests sh) (change_of m.before x)
    unfolding changed
    changed_holds x h = let g = (change_near m.before x).1 in meets.exactly (change_of m.before x) (omega arith)

    -- so it changed where one of its lines holds,
    line_changes : (x : ℕ) → x < length m.before → (t : Test) → In t (lines_for sh m after x) → holds m after t ≡ true → changed sh m after x ≡ true
    unfolding some_holds
    line_changes x h t i g = changed_holds x h ∙ in_any (holds m after) t (tests_for (tests sh) (change_of m.before x)) (line_tests sh m after x t i) g

    -- and where it did not change no line holds
    line_fails : (x : ℕ) → x < length m.before → changed sh m after x ≡ false → (t : Test) → In t (lines_for sh m after x) → holds m after t ≡ false
    line_fails x h c t i = go (holds m after t) refl
      where
        go : (b : Bool) → holds m after t ≡ b → holds m after t ≡ false
        go true e = absurd (true≢false (sym (line_changes x h t i e) ∙ c))
        go false e = e

    -- but each is stopped
    pub line_stops : (x : ℕ) → x < length m.before → changed sh m after x ≡ false → (t : Test) → In t (lines_for sh m after x)
        → (w : Stop) × (first_stop (parts_of sh m after t) ≡ some w)
    line_stops x h c t i = go (first_stop (parts_of sh m after t)) refl
      where
        go : (o : Option Stop) → first_stop (parts_of sh m after t) ≡ o → (w : Stop) × (first_stop (parts_of sh m after t) ≡ some w)
        go none e = absurd (true≢false (sym ((line_holds sh m after x t i).0 e) ∙ line_fails x h c t i))
        go (some w) e = (w, e)

    -- a status that changed though no line held was closed with its parent
    pub closed_with : (x : ℕ) → x < length m.before → changed sh m after x ≡ true → ((t : Test) → In t (lines_for sh m after x) → holds m after t ≡ false)
        → (p : ℕ) × (stage_over sh.heads x ≡ some p) × (fell m.before after p ≡ true)
    unfolding some_holds tests triggered stage_over statuses
    closed_with x h c n =
        let (t, i, g) = any_in (holds m after) (tests_for (tests sh) (change_of m.before x)) (sym (changed_holds x h) ∙ c) in
        let (j, e) = test_of_lem (tests sh) (change_of m.before x) t i in
        ⊎_elim
        (λ a. absurd (true≢false (sym g ∙ n t (of_line sh m after x t a e))))
        (λ a. let (y, p, l, u, q) = child_test sh.heads.stages t a in
        let z : y ≡ x = omega (arith, ap (λ (w : Test). w.node) q, e, (change_near m.before x).0, (change_near m.before x).1) in (
          p,
          ap (λ (s : Status). s.under) (get_or-append sh.heads.stages sh.heads.miles nowhere x (omega arith)) ∙ (rw z at u),
          (holds_parts m after
              (closes y p) (rw q at g)).trigger,
        ))
        (in_cases t (of_rules sh) (implied 0 sh.heads.stages) j)

    -- WHAT IS COMPUTED IS MEANT

    -- a reason that tells of the status x, and what is meant
    abbrev pub Told : ℕ → Reason → Type 0
    Told x r = (r.status ≡ x) × Says sh m after x r.line r.kind

    by_closing : (x : ℕ) (r : Reason) → changed sh m after x ≡ true → (p : ℕ) × (stage_over sh.heads x ≡ some p) × (fell m.before after p ≡ true)
        → ((t : Test) → In t (lines_for sh m after x) → holds m after t ≡ false) → In r (closed_by sh m after x (stage_over sh.heads x)) → Told x r
    by_closing x r c (p, o, f) n i = go (rw o at i)
      where
        go : In r (closed_by sh m after x (some p)) → Told x r
        go (inl e) = subst (Told x) (sym e) (refl, (c, record { parent = p; over = o; on = refl; fallen = f; no_line = n }))
        go (inr k) = absurd k

    by_change : (x : ℕ) → x < length m.before → (r : Reason) → changed sh m after x ≡ true → (o : Option Test)
        → first_that sh m after (lines_for sh m after x) ≡ o → In r (changed_by sh m after x o) → Told x r
    by_change x h r c none e i = let n = first_none sh m after (lines_for sh m after x) e in by_closing x r c (closed_with x h c n) n i
    by_change x h r c (some t) e (inl q) =
        let (i, g, n) = first_some sh m after (lines_for sh m after x) t (lines_up sh m after x) e in
        subst (Told x) (sym q) (refl, (c, record { test = t; on = (i, refl); counts = g; none_earlier = n }))
    by_change x h r c (some t) e (inr k) = absurd k

    by_stop : (x : ℕ) (r : Reason) → changed sh m after x ≡ false → (t : Test) → In t (lines_for sh m after x) → (o : Option Stop)
        → first_stop (parts_of sh m after t) ≡ o → In r (stopped_by sh m after x t.line o) → Told x r
    by_stop x r c t j none e i = absurd i
    by_stop x r c t j (some w) e (inl q) =
        let (a, p, b, is, named, all) = stop_first (parts_of sh m after t) w e in
        subst (Told x) (sym q) (refl, (c, record { test = t; on = (j, refl); earlier = a; part = p; later = b; are = is; named = named; all_true = all }))
    by_stop x r c t j (some w) e (inr k) = absurd k

    -- what is computed of a status is meant,
    pub reason_says : (x : ℕ) → x < length m.before → (r : Reason) → In r (reasons_of sh m after x) → Told x r
    unfolding reasons_of
    reason_says x h r i = go (changed sh m after x) refl i
      where
        go : (b : Bool) → changed sh m after x ≡ b
            → In r (cond b (changed_by sh m after x (first_that sh m after (lines_for sh m after x))) (joined (stop_of x) (lines_for sh m after x))) → Told x r
        go true c i = by_change x h r c (first_that sh m after (lines_for sh m after x)) refl i
        go false c i = let (t, j, k) = joined_in (stop_of x) r (lines_for sh m after x) i in by_stop x r c t j (first_stop (parts_of sh m after t)) refl k

  -- and what is meant of it is computed
  pub says_reason : (x l : ℕ) (k : Kind) → Says sh m after x l k → In (record { status = x; line = l; kind = k }) (reasons_of sh m after x)
  unfolding reasons_of
  says_reason x l held (c, f) =
      let n : (u : Test) → In u (lines_for sh m after x) → u.line < f.test.line → holds m after u
      ≡ false = λ u i g. f.none_earlier u i (rw f.on.1 at g) in
      rw (c, first_holds sh m after (lines_for sh m after x) f.test (lines_up sh m after x) (f.on.0, f.counts, n))
      (inl (ap (λ w. record { status = x; line = w; kind = held }) (sym f.on.1)))
  says_reason x l closed (c, f) =
      rw (c, none_holds sh m after (lines_for sh m after x) f.no_line, f.over) (inl (ap (λ w. record { status = x; line = w; kind = closed }) (sym f.on)))
  says_reason x l (stopped w) (c, f) =
      let stops : first_stop (parts_of sh m after f.test) ≡ some w = rw f.are (first_stop_lem f.earlier f.later f.part w f.named f.all_true) in
      rw c (in_joined (stop_of x) f.test _ (lines_for sh m after x) f.on.0
      (rw stops (inl (ap (λ v. record { status = x; line = v; kind = stopped w }) (sym f.on.1)))))

  -- HOW MANY REASONS IT HAS

  module _ (meets : Meets (tests sh) m after) where
    -- of a status that changed one,
    pub changed_one : (x : ℕ) → x < length m.before → changed sh m after x ≡ true → length (reasons_of sh m after x) ≡ 1
    unfolding reasons_of
    changed_one x h c = rw c (go (first_that sh m after (lines_for sh m after x)) refl)
      where
        go : (o : Option Test) → first_that sh m after (lines_for sh m after x) ≡ o → length (changed_by sh m after x o) ≡ 1
        go none e = let (p, o, f) = closed_with meets x h c (first_none sh m after (lines_for sh m after x) e) in rw o
        go (some t) e = refl

    -- of another one for each of its lines, in their order
    stops_each : (x : ℕ) (ts : List Test) → ((t : Test) → In t ts → (w : Stop) × (first_stop (parts_of sh m after t) ≡ some w))
        → map (λ (r : Reason). r.line) (joined (stop_of x) ts) ≡ map (λ (t : Test). t.line) ts
    unfolding joined
    stops_each x [] h = refl
    stops_each x (t ∷ ts) h = let (w, e) = h t (inl refl) in rw e (ap (λ l. t.line ∷ l) (stops_each x ts (λ u i. h u (inr i))))

    pub lines_each : (x : ℕ) → x < length m.before → changed sh m after x ≡ false
        → map (λ (r : Reason). r.line) (reasons_of sh m after x) ≡ map (λ (t : Test). t.line) (lines_for sh m after x)
    unfolding reasons_of
    lines_each x h c = rw c (stops_each x (lines_for sh m after x) (line_stops meets x h c))

    -- so no more than there are tests for its change
    pub of_few : (x : ℕ) → x < length m.before → length (reasons_of sh m after x) ≤ length (tests_for (tests sh) (change_of m.before x))
    unfolding some_holds
    of_few x h = go (changed sh m after x) refl
      where
        go : (b : Bool) → changed sh m after x ≡ b → length (reasons_of sh m after x) ≤ length (tests_for (tests sh) (change_of m.before x))
        go true c =
            let (t, i, g) = any_in (holds m after) (tests_for (tests sh) (change_of m.before x)) (sym (changed_holds meets x h) ∙ c) in
            omega (arith, changed_one x h c, in_some t (tests_for (tests sh) (change_of m.before x)) i)
        go false c =
            omega (
              arith,
              lines_few sh m after x,
              length-map (reasons_of sh m after x)
                  (λ (r : Reason). r.line),
              length-map (lines_for sh m after x) (λ (t : Test). t.line),
              ap length (lines_each x h c),
            )
