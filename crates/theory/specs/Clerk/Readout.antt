-- What the clerk reads out fits: every rule line is told at most once, so the lines told together are no longer than the sheet.
use Prim.Native.Nat.{ℕ, zero, suc, ◌+◌, ◌*◌, ◌-◌, ◌≤◌}
use Rattle.std.specs.Prelude.{◌≡◌, refl, Bool, cond, get_or}
use Rattle.std.proofs.Common.{sym, inl, inr, length-take}
use Rattle.std.proofs.Math.Path.{subst}
use Rattle.std.proofs.Math.Bool.{true, false}
use mathlib.Core.List.{List, [], ◌∷◌, ◌++◌}
use Rattle.std.proofs.Math.Option.{Option, none, some}
use native.Mathlib.Omega.{arith}
use Rattle.std.proofs.Math.Nat.{suc-mul}
use Rattle.std.proofs.Math.ListN.{length, length-append, length-drop, drop}
use Rattle.meaning.specs.Text.{text, joined, from}
use Rattle.meaning.specs.Limits.{name_bytes, status_limit, rule_limit}
use Rattle.meaning.specs.Name.{Name}
use Rattle.meaning.specs.Number.{decimal}
use Rattle.meaning.specs.Sheet.{Heads, Sheet, Rule, statuses, status_names, stage_over}
use Rattle.meaning.specs.Card.{is}
use Rattle.meaning.specs.Tests.{Test, test_of, rule_tests, rule_line, status_line}
use Rattle.meaning.specs.Dependency.{tests_for}
use Rattle.meaning.specs.Step.{Moment, moment, holds}
use Rattle.meaning.specs.Why.{Stop, trigger_not_met, home_not_open, condition_false, condition_unknown, Kind, held, closed, stopped, Reason, change_of, first_stop, parts_of, lines_for, changed, first_that, closed_by, changed_by, stopped_by, reasons_of, reasons}
use Rattle.meaning.specs.Desk.{line_length}
use Rattle.meaning.specs.Doors.{Case, reasons_in}
use Rattle.meaning.specs.Clerk.{behind_lines, line_at, kind_words, status_name, over_name, change_sign, rule_told, parent_told, kind_told, why_line}
use Rattle.theory.specs.Papers.Names.{Good, good_short}
use Rattle.theory.specs.Papers.Counts.{decimal_few}
use Rattle.theory.specs.Papers.Formed.{Each, WellHeads}
use Rattle.theory.specs.Why.Sums.{total, total_both, joined_total, counted_once}
use Rattle.theory.specs.Papers.Case.{Papers}
use Rattle.theory.specs.Writing.ReadBack.{names_good}
use Rattle.theory.specs.Requests.Cases.{at, after}

-- THE REASONS

-- a number for each reason: at most so much for a line, and so much for a closing
module _ (sh : Sheet) (m : Moment) (after : List Bool) (w : Reason → ℕ) (v : ℕ → ℕ) (c : ℕ)
    (by_held : (x l : ℕ) → w (record { status = x; line = l; kind = held }) ≤ v l)
    (by_stop : (x l : ℕ) (s : Stop) → w (record { status = x; line = l; kind = stopped s }) ≤ v l)
    (by_parent : (x l : ℕ) → w (record { status = x; line = l; kind = closed }) ≤ c) where
  abbrev rules : List Test
  rules = rule_tests sh.heads (rule_line sh.heads) sh.rules

  abbrev told : List Test → ℕ
  told ts = total (λ (t : Test). v t.line) ts

  closed_most : (x : ℕ) (p : Option ℕ) → total w (closed_by sh m after x p) ≤ c
  unfolding total
  closed_most x none = omega arith
  closed_most x (some p) = omega (arith, by_parent x (status_line sh.heads p))

  changed_most : (x : ℕ) (ts : List Test) → total w (changed_by sh m after x (first_that sh m after ts)) ≤ told ts + c
  unfolding total first_that
  changed_most x [] = omega (arith, closed_most x (stage_over sh.heads x))
  changed_most x (t ∷ ts) = go (holds m after t) (changed_most x ts)
    where
      go : (b : Bool) → total w (changed_by sh m after x (first_that sh m after ts)) ≤ told ts + c
          → total w (changed_by sh m after x (cond b (some t) (first_that sh m after ts))) ≤ v t.line + told ts + c
      go true h = omega (arith, by_held x t.line)
      go false h = omega arith

  stopped_most : (x : ℕ) (ts : List Test) → total w (joined (λ t. stopped_by sh m after x t.line (first_stop (parts_of sh m after t))) ts) ≤ told ts
  unfolding total joined
  stopped_most x [] = omega arith
  stopped_most x (t ∷ ts) = go (first_stop (parts_of sh m after t)) (stopped_most x ts)
    where
      rest : List Reason
      rest = joined (λ t. stopped_by sh m after x t.line (first_stop (parts_of sh m after t))) ts

      go : (s : Option Stop) → total w rest ≤ told ts → total w (stopped_by sh m after x t.line s ++ rest) ≤ v t.line + told ts
      go none h = omega arith
      go (some s) h = omega (arith, by_stop x t.line s)

  status_most : (x : ℕ) → total w (reasons_of sh m after x) ≤ told (tests_for rules (change_of m.before x)) + c
  unfolding reasons_of lines_for
  status_most x = go (changed sh m after x)
    where
      ts : List Test
      ts = tests_for rules (change_of m.before x)

      go : (b : Bool) → total w (cond b (changed_by sh m after x (first_that sh m after ts))
          (joined (λ t. stopped_by sh m after x t.line (first_stop (parts_of sh m after t))) ts)) ≤ told ts + c
      go true = changed_most x ts
      go false = omega (arith, stopped_most x ts)

  from_most : (n i : ℕ) → total w (joined (reasons_of sh m after) (from i n)) ≤ total (λ x. told (tests_for rules (change_of m.before x))) (from i n) + n * c
  unfolding total joined from
  from_most zero i = omega arith
  from_most (suc n) i =
      omega (arith, total_both w (reasons_of sh m after i) (joined (reasons_of sh m after) (from (suc i) n)), status_most i, from_most n (suc i), suc-mul n c)

  -- each rule line counts once, and each status once for a closing
  pub reasons_most : total w (reasons sh m after) ≤ told rules + length m.before * c
  unfolding reasons
  reasons_most =
      let n = length m.before in
      omega (arith, from_most n 0, counted_once (λ (t : Test). v t.line) rules m.before n)

-- THE LINES OF A PAPER

-- what is behind one line more
behind_next : (l : ℕ) (s : List ℕ) → behind_lines (suc l) s ≡ drop (line_length (behind_lines l s)) (behind_lines l s)
unfolding behind_lines
behind_next zero s = refl
behind_next (suc l) s = behind_next l (drop (line_length s) s)

-- a line is what is between
line_between : (l : ℕ) (s : List ℕ) → length (line_at (suc l) s) + length (behind_lines (suc l) s) ≤ length (behind_lines l s)
unfolding line_at
line_between l s =
    let z : suc l - 1 ≡ l = omega arith in
    let here = behind_lines l s in
    rw (z, behind_next l s) (omega (arith, length-take (line_length here) here, length-drop (line_length here) here))

behind_short : (l : ℕ) (s : List ℕ) → length (behind_lines l s) ≤ length s
unfolding behind_lines
behind_short zero s = omega arith
behind_short (suc l) s = omega (arith, behind_short l (drop (line_length s) s), length-drop (line_length s) s)

-- the lines of the rules are part of the paper
lines_part : (s : List ℕ) (c : ℕ) (hd : Heads) (l : ℕ) (rs : List Rule)
    → total (λ (t : Test). c + length (line_at t.line s)) (rule_tests hd (suc l) rs) ≤ length rs * c + length (behind_lines l s)
unfolding total rule_tests test_of
lines_part s c hd l [] = omega arith
lines_part s c hd l (r ∷ rs) = omega (arith, line_between l s, lines_part s c hd (suc l) rs, suc-mul (length rs) c)

-- WHAT IS READ OUT

-- what is told beside a rule line's own bytes at its longest: the name of the status and the words
abbrev pub beside_rule : ℕ
beside_rule = 40 + name_bytes

-- and a closing: two names and the words
abbrev pub closing_told : ℕ
closing_told = 21 + 2 * name_bytes

-- names are short
name_short : (ns : List Name) → Each Good ns → (x : ℕ) → length (get_or ns x []) ≤ name_bytes
name_short [] h x = omega arith
name_short (n ∷ ns) h zero = good_short n (h n (inl refl))
name_short (n ∷ ns) h (suc x) = name_short ns (λ m i. h m (inr i)) x

pub status_short : (hd : Heads) → WellHeads hd → (x : ℕ) → length (status_name hd x) ≤ name_bytes
unfolding status_name
status_short hd well = name_short (status_names (statuses hd)) (names_good hd well)

words_short : (k : Kind) → length (kind_words k) ≤ 17
words_short held = omega arith
words_short closed = omega arith
words_short (stopped trigger_not_met) = omega arith
words_short (stopped home_not_open) = omega arith
words_short (stopped condition_false) = omega arith
words_short (stopped condition_unknown) = omega arith

sign_short : (b : Bool) → length (change_sign b) ≡ 1
sign_short true = refl
sign_short false = refl

module _ (s : List ℕ) (k : Case) (papers : Papers k) where
  abbrev hd : Heads
  hd = k.sheet.heads

  short : (x : ℕ) → length (status_name hd x) ≤ name_bytes
  short = status_short hd papers.well.heads

  over_short : (p : Option ℕ) → length (over_name hd p) ≤ name_bytes
  over_short none = omega arith
  over_short (some p) = short p

  rule_short : (name : Name) (l : ℕ) (w : Kind) → length (rule_told s name l w) ≤ 35 + length (line_at l s)
  unfolding rule_told
  rule_short name l w =
      let own = drop (length (text "rule=+") + length name) (line_at l s) in
      omega (
        arith,
        length-append (text " line " ++ decimal l ++ text " " ++ kind_words w ++ text ":") own,
        length-append (text " line " ++ decimal l ++ text " " ++ kind_words w) (text ":"),
        length-append (text " line " ++ decimal l ++ text " ") (kind_words w),
        length-append (text " line " ++ decimal l) (text " "),
        length-append (text " line ") (decimal l),
        length-drop (length (text "rule=+") + length name) (line_at l s),
        decimal_few l,
        words_short w,
      )

  parent_short : (name : Name) → length name ≤ name_bytes → length (parent_told name) ≤ 16 + name_bytes
  unfolding parent_told
  parent_short name h = omega (
    arith,
    length-append (text " parent " ++ name ++ text " " ++ kind_words closed) (text "\n"),
    length-append (text " parent " ++ name ++ text " ") (kind_words closed),
    length-append (text " parent " ++ name) (text " "),
    length-append (text " parent ") name,
  )

  -- behind the sign and the name of its status
  line_short : (x l : ℕ) (w : Kind) → length (why_line s k (record { status = x; line = l; kind = w })) ≤ 5 + name_bytes + length (kind_told s hd x l w)
  unfolding why_line
  line_short x l w =
      let sign = change_sign (is k.card.statuses x) in
      omega (
        arith,
        length-append (text "why=" ++ sign ++ status_name hd x) (kind_told s hd x l w),
        length-append (text "why=" ++ sign) (status_name hd x),
        length-append (text "why=") sign,
        sign_short (is k.card.statuses x),
        short x,
      )

  -- all that is read out, of a sheet of so many bytes
  pub why_short : length (joined (why_line s k) (reasons_in k)) ≤ rule_limit * beside_rule + status_limit * closing_told + length s
  unfolding reasons_in moment rule_line
  why_short =
      let w : Reason → ℕ = λ r. length (why_line s k r) in
      let rs = k.sheet.rules in
      let above = 1 + length hd.fields + length hd.events + length (statuses hd) in
      let first : rule_line hd ≡ suc above = omega arith in
      omega (
        arith,
        joined_total w (why_line s k) (λ r. omega arith) (reasons_in k),
        reasons_most k.sheet (at k) (after k) w (λ l. beside_rule + length (line_at l s)) closing_told
            (λ x l. omega (arith, line_short x l held, rule_short (status_name hd x) l held))
            (λ x l o. omega (arith, line_short x l (stopped o), rule_short (status_name hd x) l (stopped o)))
            (λ x l. omega (arith, line_short x l closed, parent_short (over_name hd (stage_over hd x)) (over_short (stage_over hd x)))),
        subst
            (λ l. total (λ (t : Test). beside_rule + length (line_at t.line s)) (rule_tests hd l rs) ≤ length rs * beside_rule + length (behind_lines above s))
            (sym first) (lines_part s beside_rule hd above rs),
        behind_short above s,
        papers.well.rules_few,
        papers.well.heads.statuses_few,
        papers.marked,
      )
