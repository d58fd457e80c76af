-- What `clerk outlook` prints for three papers, return by return: what is known there, and the answer that is asked.
use Prim.Native.Nat.{ℕ, ◌+◌, ◌≤◌}
use mathlib.Core.Path.{◌≡◌, refl, sym, ◌∙◌, ap, ap₂, subst}
use mathlib.Core.List.{List}
use native.Mathlib.Omega.{arith}
use lib.ListN.{length, take}
use Rattle.meaning.specs.Refusal.{taken}
use Rattle.meaning.specs.Sheet.{statuses, status_names}
use Rattle.meaning.specs.Write.{line}
use Rattle.meaning.specs.Doors as D
use Rattle.meaning.specs.Doors.{read_case, outlook}
use Rattle.meaning.specs.Desk.{outlook_lines}
use Rattle.meaning.specs.Clerk.{prospects_told, outlook_printed}
use Rattle.theory.specs.Papers.Case.{Papers, case_holds}
use Rattle.theory.specs.Requests.Cases.{at}
use Rattle.theory.specs.Clerk.Prospects.{case_prospects_short}
use Rattle.sheet_tables.specs.Heads.{Sized}
use Rattle.step_test.specs.declared.Moment.{Moment}
use Rattle.step_test.specs.Codes.{as_moment}
use Rattle.step_moment.specs.Tables.{moment_of}
use Rattle.theory.specs.Writing.Lent.{Wrote}
use Rattle.case_read.specs.declared.Case.{Case}
use Rattle.case_read.specs.Answers.{taken_case, as_case}
use Rattle.case_read.proofs.Callers.{TheCase, the_case, case_moment, printed_case}
use Rattle.std.specs.Prelude.{Option, Some, None}
use Rattle.outlook_case.specs.Patterns.{Ready, as_listed, list_space}
use Rattle.outlook_case.proofs.Callers.{ready, answer_outlook, listed_many, listed_taken}
use Rattle.desk_rooms.specs.Rooms.{named_room}
use Rattle.desk_print.specs.Lines.{many_text}
use Rattle.clerk_prospects.specs.Lines.{status_names_of}
use Rattle.clerk_prospects.proofs.Callers.{status_names_lem}
use Rattle.clerk_outlook.specs.Texts.{named_text, Named}

-- what is printed for a case, and for three papers
abbrev pub of_case : List ℕ → D.Case → List ℕ
of_case sheet k = prospects_told (status_names (statuses k.sheet.heads)) (outlook k)

abbrev pub of_papers : List ℕ → List ℕ → List ℕ → List ℕ
of_papers sheet card event = outlook_printed (read_case sheet card event)

-- A CASE THAT WAS READ

module _ (x : Case) (w : Named x) (m : Moment) (is : m ≡ moment_of x.card x.happening) where
  pub named_ready : Ready x.sheet m
  named_ready = rw is w.ready

  -- what is listed tells whether there are too many parts, and the array then holds the list
  module _ (l : Option ℕ) (told : l ≡ as_listed x.sheet m) where
    pub many_done : l ≡ None → (o o1 : List ℕ) (n : ℕ) → Wrote 0 many_text o o1 n → Wrote 0 (named_text x) o o1 n
    unfolding named_text prospects_told outlook_lines
    many_done z o o1 n v = rw (← is, listed_many x.sheet m l told z) v

    module _ (count : ℕ) (z : l ≡ Some count) (was ps : List ℕ) (space : ps ≡ list_space x.sheet m was) where
      text_of : named_text x ≡ prospects_told (status_names_of x.sheet.heads) (taken (take count ps))
      unfolding named_text
      text_of = rw (← is, listed_taken x.sheet m l told count z was ps space)

      pub named_room_lem : (o : List ℕ) → named_room ≤ length o → length (prospects_told (status_names_of x.sheet.heads) (taken (take count ps))) ≤ length o
      named_room_lem o room = rw (← text_of) (omega (arith, w.room))

      pub named_done : (o o1 : List ℕ) (n : ℕ) → Wrote 0 (prospects_told (status_names_of x.sheet.heads) (taken (take count ps))) o o1 n
          → Wrote 0 (named_text x) o o1 n
      named_done o o1 n v = subst (λ t. Wrote 0 t o o1 n) (sym text_of) v

pub named_sized : (x : Case) → Named x → Sized x.sheet.heads
named_sized x w = w.ready.sized

pub many_room : (o : List ℕ) → named_room ≤ length o → 0 + length many_text ≤ length o
unfolding line
many_room o room = omega arith

pub ruleset naming = (named_ready, many_room, many_done, named_sized, named_room_lem, named_done)

-- THE PAPERS OF A CASE

module _ (s c e : List ℕ) (x : Case) (told : x ≡ as_case (read_case s c e)) (zero : x.number ≡ 0) where
  abbrev d : TheCase s c e x
  d = the_case s c e x told zero

  abbrev k : D.Case
  k = d.k

  papers : Papers k
  papers = case_holds s c e k d.q

  at_it : moment_of (taken_case k).card (taken_case k).happening ≡ as_moment (at k)
  at_it = sym (ap (λ (x : Case). moment_of x.card x.happening) d.is) ∙ case_moment s c e x told zero (moment_of x.card x.happening) refl

  text_is : named_text x ≡ of_case s k
  unfolding named_text
  text_is = ap named_text d.is ∙ rw at_it (ap₂ prospects_told (status_names_lem k.sheet.heads papers.well.heads) (answer_outlook s c e k d.q))

  pub case_named : Named x
  case_named = record {
    ready = subst (λ (x : Case). Ready x.sheet (moment_of x.card x.happening)) (sym d.is) (rw at_it (ready s c e k d.q));
    room = rw text_is (omega (arith, case_prospects_short k papers));
  }

  pub case_done : (o o1 : List ℕ) (n : ℕ) → Wrote 0 (named_text x) o o1 n → Wrote 0 (outlook_printed (read_case s c e)) o o1 n
  unfolding outlook_printed
  case_done = printed_case of_case s c e x d (named_text x) text_is

pub ruleset casing = (case_named, case_done)
