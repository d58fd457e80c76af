-- What `clerk why` prints for three papers, return by return: what is known there, and the answer that is asked.
use Prim.Native.Nat.{ℕ, ◌≤◌}
use mathlib.Core.Path.{◌≡◌, sym, ◌∙◌, ap}
use mathlib.Core.Bool.{true}
use mathlib.Core.List.{List, ◌++◌}
use native.Mathlib.Omega.{arith}
use borrow.Author.Tests.{leb-true, le-leb}
use lib.Dec.{leb}
use lib.ListN.{length, length-append, take, drop}
use lib.Seq.{take_at, length-take-le}
use Rattle.meaning.specs.Text.{joined}
use Rattle.meaning.specs.Limits.{sheet_bytes}
use Rattle.meaning.specs.Reading.{paper}
use Rattle.meaning.specs.ReadSheet.{sheet}
use Rattle.meaning.specs.Step.{moment}
use Rattle.meaning.specs.Doors as D
use Rattle.meaning.specs.Doors.{read_sheet, read_case, reasons_in, why}
use Rattle.meaning.specs.Clerk.{why_line, why_printed}
use Rattle.theory.specs.Reading.Readers.{paper_read}
use Rattle.theory.specs.Papers.Case.{Papers, case_holds, on_taken_lem, case_apart}
use Rattle.theory.specs.Requests.Cases.{at, case_back}
use Rattle.theory.specs.Clerk.Readout.{why_short}
use Rattle.limits.specs.Sizes.{test_room}
use Rattle.reply.specs.declared.Reply.{Reply}
use Rattle.marks.specs.Codes.{marked}
use Rattle.marks.proofs.Callers.{mark_yes}
use Rattle.step_test.specs.declared.Moment.{Moment}
use Rattle.step_test.specs.Codes.{as_moment}
use Rattle.step_moment.specs.Tables.{moment_of}
use Rattle.theory.specs.Writing.Lent.{Wrote}
use Rattle.case_read.specs.declared.Case.{Case}
use Rattle.case_read.specs.Answers.{taken_case, as_case}
use Rattle.case_read.proofs.Callers.{TheCase, the_case, case_moment, printed_case}
use Rattle.why_case.specs.Reasons.{list_of, reply_for, space_for, Ready}
use Rattle.why_case.proofs.Callers.{ready, list_is}
use Rattle.desk_rooms.specs.Rooms.{why_room}
use Rattle.clerk_reasons.specs.Lines.{reasons_text, Held}
use Rattle.clerk_reasons.proofs.Callers.{reasons_held, reasons_are}

-- what is printed for a case with its sheet, and for three papers
abbrev pub of_case : List ℕ → D.Case → List ℕ
of_case sheet k = joined (why_line sheet k) (reasons_in k)

abbrev pub of_papers : List ℕ → List ℕ → List ℕ → List ℕ
of_papers sheet card event = why_printed sheet (read_case sheet card event)

-- A CASE THAT WAS READ

module _ (s c e : List ℕ) (x : Case) (told : x ≡ as_case (read_case s c e)) (zero : x.number ≡ 0) (m : Moment) (is : m ≡ moment_of x.card x.happening) where
  abbrev d : TheCase s c e x
  d = the_case s c e x told zero

  abbrev k : D.Case
  k = d.k

  at_it : m ≡ as_moment (at k)
  at_it = case_moment s c e x told zero m is

  papers : Papers k
  papers = case_holds s c e k d.q

  -- an accepted sheet is not long
  sheet_short : length s ≤ sheet_bytes
  unfolding read_sheet
  sheet_short =
      let (sh, e, f) = on_taken_lem (paper 1 sheet_bytes sheet s) _ _ (case_apart s c e k d.q).sheet in
      leb-true (length s) sheet_bytes (paper_read 1 sheet_bytes sheet s sh e).0

  list_as : list_of x.sheet m ≡ why k
  list_as = ap (λ (x : Case). list_of x.sheet m) d.is ∙ ap (list_of (taken_case k).sheet) at_it ∙ list_is s c e k d.q

  pub case_ready : Ready x.sheet m
  case_ready = rw (d.is, at_it) (ready s c e k d.q)

  -- the reply tells how many reasons there are, and the space then holds them
  module _ (lent : List ℕ) (long : length lent ≡ test_room) (r : Reply) (answer : r ≡ reply_for x.sheet m (length lent)) (ns : List ℕ)
      (space : ns ≡ space_for x.sheet m lent) where
    fits : leb (length (list_of x.sheet m)) (length lent) ≡ true
    fits = le-leb (length (list_of x.sheet m)) (length lent) (omega (arith, case_ready.few))

    counted : r.count ≡ length (why k)
    unfolding reply_for
    counted =
        let is : r ≡ record { number = 0; paper = 0; line = 0; count = length (list_of x.sheet m); tasks = 0 } = answer ∙ rw fits in
        ap (λ (r : Reply). r.count) is ∙ ap length list_as

    kept : ns ≡ why k ++ drop (length (why k)) lent
    unfolding space_for
    kept = space ∙ rw (fits, list_as)

    all_are : take r.count ns ≡ why k
    all_are = ap (take r.count) kept ∙ take_at (why k) (drop (length (why k)) lent) r.count (sym counted)

    pub reasons_part : r.count ≤ length ns
    reasons_part = omega (arith, counted, ap length kept, length-append (why k) (drop (length (why k)) lent))

    pub reasons_long : r.count ≡ length (take r.count ns)
    reasons_long = sym (length-take-le r.count ns reasons_part)

    pub reasons_known : Held (take r.count ns)
    unfolding why
    reasons_known = rw all_are (reasons_held k papers.well.heads (reasons_in k) (case_back k papers))

    text_is : reasons_text s x.sheet.heads m.before (take r.count ns) ≡ of_case s k
    unfolding why moment
    text_is =
        ap (λ (x : Case). reasons_text s x.sheet.heads m.before (take r.count ns)) d.is
        ∙ rw (all_are, at_it) (reasons_are k papers.well.heads (reasons_in k) (case_back k papers) s (marked k.card.statuses)
        (λ x. mark_yes k.card.statuses x))

    pub reasons_fit : (o : List ℕ) → why_room ≤ length o → length (reasons_text s x.sheet.heads m.before (take r.count ns)) ≤ length o
    reasons_fit o h = rw text_is (omega (arith, why_short s k papers, sheet_short))

    pub reasons_done : (o o1 : List ℕ) (n : ℕ) → Wrote 0 (reasons_text s x.sheet.heads m.before (take r.count ns)) o o1 n
        → Wrote 0 (why_printed s (read_case s c e)) o o1 n
    unfolding why_printed
    reasons_done = printed_case of_case s c e x d (reasons_text s x.sheet.heads m.before (take r.count ns)) text_is

pub ruleset casing = (case_ready, reasons_part, reasons_long, reasons_known, reasons_fit, reasons_done)
