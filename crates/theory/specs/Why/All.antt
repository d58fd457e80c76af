-- All reasons: they are what is meant, ascending, no other list is, and none is longer than the rule lines and child stages together.
use Prim.Native.Nat.{ℕ, zero, suc, ◌+◌, ◌*◌, ◌/◌, ◌%◌, ◌≤◌, ◌<◌}
use Rattle.std.specs.Prelude.{◌≡◌, Bool, true, false, cond, ◌↔◌, eqb}
use Rattle.std.proofs.Common.{sym, ◌∙◌, ap, subst, inl, inr}
use mathlib.Core.List.{List, [], ◌∷◌, ◌++◌, map}
use Rattle.std.proofs.Math.Option.{Option, none, some}
use native.Mathlib.Omega.{arith}
use Rattle.std.proofs.Math.ListN.{length, length-append}
use Rattle.std.proofs.lemmas.List.{length-map}
use borrow.Author.Tests.{eq-eqb, ne_eqb}
use Rattle.meaning.specs.Text.{In, keep, joined, from}
use Rattle.meaning.specs.Sheet.{Sheet, statuses, stage_over}
use Rattle.meaning.specs.Tests.{up, Test, rule_line, tests}
use Rattle.meaning.specs.Dependency.{tests_for}
use Rattle.meaning.specs.Step.{Moment, Meets}
use Rattle.meaning.specs.Why.{Stop, trigger_not_met, home_not_open, condition_false, condition_unknown, Kind, held, closed, stopped, kind_number, Reason, coded, first_stop, change_of, parts_of, lines_for, changed, Says, IsWhy, first_that, closed_by, changed_by, stopped_by, reasons_of, reasons}
use Rattle.theory.specs.Lists.Members.{in_map, map_in, in_joined, joined_in, map_joined, keep_all, keep_none, keep_joined, from_in, in_from, joined_only}
use Rattle.theory.specs.Lists.Ascending.{Up, both_up, up_places, up_from, up_equal}
use Rattle.theory.specs.Papers.Formed.{UnderIn, Well}
use Rattle.theory.specs.Step.SheetTests.{over_in, tests_few}
use Rattle.theory.specs.Why.Stops.{rule_lines, LinesUp, line_of, lines_up}
use Rattle.theory.specs.Why.Sums.{total, total_one, counted_once}
use Rattle.theory.specs.Why.Reasons.{stop_of, reason_says, says_reason, changed_one, lines_each, of_few}

-- HOW LARGE THE NUMBERS ARE

-- kinds are told by one digit
pub kind_low : (k : Kind) → (1 ≤ kind_number k) × (kind_number k ≤ 6)
kind_low held = (omega arith, omega arith)
kind_low closed = (omega arith, omega arith)
kind_low (stopped trigger_not_met) = (omega arith, omega arith)
kind_low (stopped home_not_open) = (omega arith, omega arith)
kind_low (stopped condition_false) = (omega arith, omega arith)
kind_low (stopped condition_unknown) = (omega arith, omega arith)

-- the number of a reason, over n statuses, is read back: status, line and kind
pub record ReadBack (n : ℕ) (r : Reason) : Type 0 where
  pub status_below : r.status < n
  pub line_below : r.line < 1000
  pub status : coded r / 10000 ≡ r.status
  pub line : coded r % 10000 / 10 ≡ r.line
  pub kind : coded r % 10 ≡ kind_number r.kind

pub read_back : (n : ℕ) (r : Reason) → r.status < n → r.line < 1000 → ReadBack n r
unfolding coded
read_back n r h l = let k = (kind_low r.kind).1 in record { status_below = h; line_below = l; status = omega arith; line = omega arith; kind = omega arith }

-- it is below that of the first reason that could be told of a status more
pub coded_below : (n : ℕ) (r : Reason) → ReadBack n r → coded r < n * 10000
coded_below n r b = omega (arith, b.status_below, b.status)

-- of one status and a higher line the number is higher, and so it is of a higher status
line_higher : (r s : Reason) → r.status ≡ s.status → r.line < s.line → coded r < coded s
unfolding coded
line_higher r s e h = omega (arith, (kind_low r.kind).1)

status_higher : (r s : Reason) → r.status < s.status → r.line < 1000 → coded r < coded s
unfolding coded
status_higher r s e h = omega (arith, (kind_low r.kind).1)

-- whether a reason tells of the status x
abbrev tells_of : ℕ → Reason → Bool
tells_of x r = eqb r.status x

-- those of a list that do
abbrev pub about : ℕ → List Reason → List Reason
about x list = keep (tells_of x) list

module _ (sh : Sheet) (m : Moment) (after : List Bool) where
  -- THEY GO UP

  -- what is told of a line is told of its status and line
  stop_is : (x : ℕ) (t : Test) (r : Reason) → In r (stop_of sh m after x t) → (r.status ≡ x) × (r.line ≡ t.line)
  stop_is x t r i = go (first_stop (parts_of sh m after t)) i
    where
      go : (o : Option Stop) → In r (stopped_by sh m after x t.line o) → (r.status ≡ x) × (r.line ≡ t.line)
      go none i = absurd i
      go (some w) (inl e) = (ap (λ (u : Reason). u.status) e, ap (λ (u : Reason). u.line) e)
      go (some w) (inr k) = absurd k

  -- the numbers of its lines go up with them
  stops_up : (x : ℕ) (ts : List Test) → LinesUp ts → Up (map coded (joined (stop_of sh m after x) ts))
  unfolding joined
  stops_up x [] up = tt
  stops_up x (t ∷ ts) up = go (first_stop (parts_of sh m after t)) (stops_up x ts up.1)
    where
      behind : (w : Stop) (v : ℕ) → In v (map coded (joined (stop_of sh m after x) ts)) → coded (record { status = x; line = t.line; kind = stopped w }) < v
      behind w v i =
          let (r, j, e) = map_in coded v (joined (stop_of sh m after x) ts) i in
          let (u, k, g) = joined_in (stop_of sh m after x) r ts j in
          let (s, l) = stop_is x u r g in
          rw e (line_higher (record { status = x; line = t.line; kind = stopped w }) r (sym s) (rw l (up.0 u k)))

      go : (o : Option Stop) → Up (map coded (joined (stop_of sh m after x) ts))
          → Up (map coded (stopped_by sh m after x t.line o ++ joined (stop_of sh m after x) ts))
      go none ih = ih
      go (some w) ih = (behind w, ih)

  -- and so do those of any status: if it changed there is one at most
  of_up : (x : ℕ) → Up (map coded (reasons_of sh m after x))
  unfolding reasons_of
  of_up x = go (changed sh m after x)
    where
      over : (o : Option ℕ) → Up (map coded (closed_by sh m after x o))
      over none = tt
      over (some p) = (λ y i. absurd i, tt)

      first : (o : Option Test) → Up (map coded (changed_by sh m after x o))
      first none = over (stage_over sh.heads x)
      first (some t) = (λ y i. absurd i, tt)

      go : (b : Bool) → Up (map coded (cond b (changed_by sh m after x (first_that sh m after (lines_for sh m after x)))
          (joined (stop_of sh m after x) (lines_for sh m after x))))
      go true = first (first_that sh m after (lines_for sh m after x))
      go false = stops_up x (lines_for sh m after x) (lines_up sh m after x)

  -- THEY ARE WHAT IS MEANT

  module _ (well : Well sh) where
    -- a line of the sheet has three digits at most
    line_low : (x : ℕ) (t : Test) → In t (lines_for sh m after x) → t.line < 1000
    unfolding rule_line
    line_low x t i =
        let (h, g) = rule_lines sh.heads (rule_line sh.heads) sh.rules t (line_of sh m after x t i).0 in
        omega (arith, well.heads.fields_few, well.heads.events_few, well.heads.statuses_few, well.rules_few)

    -- and so has what is told
    says_low : (x l : ℕ) (k : Kind) → Says sh m after x l k → l < 1000
    says_low x l held (c, f) = let g = line_low x f.test f.on.0 in omega (arith, f.on.1)
    says_low x l closed (c, f) =
        let p : f.parent < length (statuses sh.heads) = subst (UnderIn (length (statuses sh.heads))) f.over (over_in sh well x) in
        omega (arith, f.on, well.heads.fields_few, well.heads.events_few, well.heads.statuses_few)
    says_low x l (stopped w) (c, f) = let g = line_low x f.test f.on.0 in omega (arith, f.on.1)

    module _ (meets : Meets (tests sh) m after) where
      -- "The list holds" what is to be told of each status, and nothing else
      pub reasons_each : (r : Reason) → In r (reasons sh m after) ↔ ((r.status < length m.before) × Says sh m after r.status r.line r.kind)
      unfolding reasons
      reasons_each r = (
        forth,
        λ (h, s). in_joined (reasons_of sh m after) r.status r (from 0 (length m.before))
            (in_from (length m.before) 0 r.status (omega arith) (omega arith)) (says_reason sh m after r.status r.line r.kind s),
      )
        where
          forth : In r (joined (reasons_of sh m after) (from 0 (length m.before)))
              → (r.status < length m.before) × Says sh m after r.status r.line r.kind
          forth i =
              let (x, j, k) = joined_in (reasons_of sh m after) r (from 0 (length m.before)) i in
              let (g, h) = from_in (length m.before) 0 x j in
              let (e, s) = reason_says sh m after meets x (omega arith) r k in
              (omega arith, rw e s)

      -- statuses one after the other
      some_up : (n i : ℕ) → i + n ≤ length m.before → Up (joined (λ x. map coded (reasons_of sh m after x)) (from i n))
      unfolding joined from
      some_up zero i h = tt
      some_up (suc n) i h =
          both_up (map coded (reasons_of sh m after i)) (joined (λ x. map coded (reasons_of sh m after x)) (from (suc i) n)) (of_up i)
          (some_up n (suc i) (omega arith)) higher
        where
          higher : (a b : ℕ) → In a (map coded (reasons_of sh m after i)) → In b (joined (λ x. map coded (reasons_of sh m after x)) (from (suc i) n)) → a < b
          higher a b j k =
              let (r, rj, ra) = map_in coded a (reasons_of sh m after i) j in
              let (x, xk, g) = joined_in (λ x. map coded (reasons_of sh m after x)) b (from (suc i) n) k in
              let (s, sj, sb) = map_in coded b (reasons_of sh m after x) g in
              let (low, high) = from_in n (suc i) x xk in
              let (re, rs) = reason_says sh m after meets i (omega arith) r rj in
              let (se, ss) = reason_says sh m after meets x (omega arith) s sj in
              rw (ra, sb) (status_higher r s (omega arith) (says_low i r.line r.kind rs))

      -- all of them
      pub reasons_up : Up (map coded (reasons sh m after))
      unfolding reasons
      reasons_up = rw (map_joined coded (reasons_of sh m after) (from 0 (length m.before))) (some_up (length m.before) 0 (omega arith))

      -- the reasons that are computed are those that are meant
      pub reasons_right : IsWhy sh m after (reasons sh m after)
      reasons_right = record { each = reasons_each; ascending = λ i j h g. up_places (map coded (reasons sh m after)) reasons_up i j h (rw length-map g) }

      -- each of a status of the card, on a line that has three digits at most
      pub reasons_in_lem : (r : Reason) → In r (reasons sh m after) → (r.status < length m.before) × (r.line < 1000)
      reasons_in_lem r i = let (h, s) = (reasons_each r).0 i in (h, says_low r.status r.line r.kind s)

  -- no list of numbers but one is that of what is meant
  pub why_same : (l h : List Reason) → IsWhy sh m after l → IsWhy sh m after h → map coded l ≡ map coded h
  why_same l h a b = up_equal (map coded l) (map coded h) (goes l a) (goes h b) (λ v. (over l h a b v, over h l b a v))
    where
      goes : (l : List Reason) → IsWhy sh m after l → Up (map coded l)
      goes l a = up_from (map coded l) (λ i j g u. a.ascending i j g (rw length-map at u))

      over : (l h : List Reason) → IsWhy sh m after l → IsWhy sh m after h → (v : ℕ) → In v (map coded l) → In v (map coded h)
      over l h a b v i = let (r, j, e) = map_in coded v l i in rw e (in_map coded r h ((b.each r).1 ((a.each r).0 j)))

  -- HOW MANY THERE ARE

  module _ (meets : Meets (tests sh) m after) where
    -- the reasons of some statuses are no more than the tests for the change that each could have made
    some_few : (n i : ℕ) → i + n ≤ length m.before
        → length (joined (reasons_of sh m after) (from i n)) ≤ total (λ x. total (λ (t : Test). 1) (tests_for (tests sh) (change_of m.before x))) (from i n)
    unfolding joined from total
    some_few zero i h = omega arith
    some_few (suc n) i h = omega (
      arith,
      length-append (reasons_of sh m after i) (joined (reasons_of sh m after) (from (suc i) n)),
      of_few sh m after meets i (omega arith),
      total_one (tests_for (tests sh) (change_of m.before i)),
      some_few n (suc i) (omega arith),
    )

    -- "never more than rule lines and child stages together"
    pub reasons_tests : length (reasons sh m after) ≤ length (tests sh)
    unfolding reasons
    reasons_tests =
        omega (
          arith,
          some_few (length m.before) 0 (omega arith),
          counted_once
              (λ (t : Test). 1) (tests sh) m.before (length m.before),
          total_one (tests sh),
        )

    -- "(128 + 31)"
    pub reasons_few : Well sh → length (reasons sh m after) ≤ 159
    reasons_few well = omega (arith, reasons_tests, tests_few sh well)

    -- WHAT IS TOLD OF ONE STATUS

    -- the reasons that tell of a status are those computed of it
    about_of : (x : ℕ) → x < length m.before → about x (reasons sh m after) ≡ reasons_of sh m after x
    unfolding reasons
    about_of x h = keep_joined (tells_of x) (reasons_of sh m after) (from 0 (length m.before))
        ∙ joined_only (λ y. keep (tells_of x) (reasons_of sh m after y)) x (length m.before) 0 (omega arith) (omega arith) other
        ∙ keep_all (tells_of x) (reasons_of sh m after x) (λ r i. eq-eqb r.status x (reason_says sh m after meets x h r i).0)
      where
        other : (y : ℕ) → In y (from 0 (length m.before)) → (y ≡ x → ⊥) → keep (tells_of x) (reasons_of sh m after y) ≡ []
        other y j q =
            let (l, g) = from_in (length m.before) 0 y j in keep_none (tells_of x) (reasons_of sh m after y)
            (λ r i. ne_eqb r.status x (λ e. q (sym (reason_says sh m after meets y (omega arith) r i).0 ∙ e)))

    -- "For each status that changed" there is one reason,
    pub one_reason : (x : ℕ) → x < length m.before → changed sh m after x ≡ true → length (about x (reasons sh m after)) ≡ 1
    one_reason x h c = rw (about_of x h) (changed_one sh m after meets x h c)

    -- and of every other one for each "rule line for the change it could have made", in sheet order
    pub each_line : (x : ℕ) → x < length m.before → changed sh m after x ≡ false
        → map (λ (r : Reason). r.line) (about x (reasons sh m after)) ≡ map (λ (t : Test). t.line) (lines_for sh m after x)
    each_line x h c = rw (about_of x h) (lines_each sh m after meets x h c)
