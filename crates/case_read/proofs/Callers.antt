-- What a caller may conclude from the answer: the case of the three papers, and what is known of it; or their refusal.
use Prim.Native.Nat.{ℕ, ◌≤◌}
use mathlib.Core.Path.{◌≡◌, refl, sym, ◌∙◌, ap}
use mathlib.Core.List.{List}
use lib.ListN.{length}
use native.Mathlib.Omega.{arith}
use Rattle.meaning.specs.Refusal.{Answer, taken, refused, on_taken}
use Rattle.meaning.specs.Limits.{card_bytes, event_bytes}
use Rattle.meaning.specs.Doors as D
use Rattle.meaning.specs.Doors.{read_case, replied, written}
use Rattle.meaning.specs.Desk.{refusal_text, or_refusal}
use Rattle.theory.specs.Papers.Formed.{Each}
use Rattle.theory.specs.Papers.Cards.{PutIn}
use Rattle.theory.specs.Papers.Case.{Papers, case_holds, case_short}
use Rattle.theory.specs.Requests.Cases.{at}
use Rattle.theory.specs.Requests.Numbers.{case_tells}
use Rattle.reply.specs.declared.Reply.{Reply}
use Rattle.reply.specs.Answers.{as_reply, refused_reply}
use Rattle.sheet_tables.specs.Heads.{Sized}
use Rattle.sheet_tables.proofs.Tables.{sized}
use Rattle.step_test.specs.declared.Moment.{Moment}
use Rattle.step_test.specs.Codes.{as_moment}
use Rattle.step_moment.specs.Tables.{moment_of}
use Rattle.step_moment.proofs.Callers.{moment_is}
use Rattle.theory.specs.Writing.Lent.{Wrote}
use Rattle.case_read.specs.declared.Case.{Case}
use Rattle.case_read.specs.Answers.{refused_case, taken_case, as_case}

-- the case that the papers tell, and that it is what the code has
pub record TheCase (s c e : List ℕ) (r : Case) : Type 0 where
  pub k : D.Case
  pub q : read_case s c e ≡ taken k
  pub is : r ≡ taken_case k

module _ (s c e : List ℕ) (r : Case) (told : r ≡ as_case (read_case s c e)) where
  -- number 0: what was taken
  pub the_case : r.number ≡ 0 → TheCase s c e r
  the_case z = go (read_case s c e) refl
    where
      go : (x : Answer D.Case) → read_case s c e ≡ x → TheCase s c e r
      go (taken k) q = record { k = k; q = q; is = told ∙ ap as_case q }
      go (refused n p l) q =
          let y : r.number ≡ n = ap (λ (r : Case). r.number) (told ∙ ap as_case q) in
          absurd (omega (arith, ((case_tells s c e).told n p l q).0))

  -- another number: the refusal's
  pub case_wrong : (r.number ≡ 0 → ⊥) → read_case s c e ≡ refused r.number r.paper r.line
  case_wrong z = go (read_case s c e) refl
    where
      go : (x : Answer D.Case) → read_case s c e ≡ x → read_case s c e ≡ refused r.number r.paper r.line
      go (taken k) q = absurd (z (ap (λ (r : Case). r.number) (told ∙ ap as_case q)))
      go (refused n p l) q = let y : r ≡ refused_case n p l = told ∙ ap as_case q in rw y q

  -- what is known of it
  module _ (zero : r.number ≡ 0) where
    abbrev d : TheCase s c e r
    d = the_case zero

    papers : Papers d.k
    papers = case_holds s c e d.k d.q

    -- its tables are sized, and card and event line are not long
    pub case_sized : Sized r.sheet.heads
    case_sized = rw d.is (sized d.k.sheet.heads papers.well.heads)

    pub case_card : length c ≤ card_bytes
    case_card = (case_short s c e d.k d.q).0

    pub case_event : length e ≤ event_bytes
    case_event = (case_short s c e d.k d.q).1

    -- the moment that the code makes of card and event line is the meaning's
    pub case_moment : (m : Moment) → m ≡ moment_of r.card r.happening → m ≡ as_moment (at (the_case zero).k)
    case_moment m is =
        let puts : Each (PutIn (length d.k.card.entries)) d.k.happening.puts = rw papers.entries papers.happening.puts in
        is ∙ ap (λ (r : Case). moment_of r.card r.happening) d.is ∙ moment_is d.k.sheet.heads d.k.card d.k.happening puts

pub ruleset taking = (case_sized, case_card, case_event)

-- WHAT A REQUEST RETURNS where a paper is refused, whatever it makes of a case: that refusal, and the space is untouched
module _ {A : Type 0} (f : D.Case → Answer A) (s c e : List ℕ) (r : Case) (told : r ≡ as_case (read_case s c e)) (z : r.number ≡ 0 → ⊥) where
  pub request_refused : (count tasks : A → ℕ) (q : Reply) → q ≡ refused_reply r.number r.paper r.line
      → q ≡ as_reply (replied count tasks (on_taken (read_case s c e) f))
  unfolding replied
  request_refused count tasks q g = g ∙ sym (rw (case_wrong s c e r told z))

  pub request_untouched : (out : A → List ℕ) (lent : List ℕ) → lent ≡ written out lent (on_taken (read_case s c e) f)
  unfolding written
  request_untouched out lent = sym (rw (case_wrong s c e r told z))

-- WHAT A PROGRAM PRINTS for the three papers, whatever it makes of a case and the bytes of its sheet
module _ (print : List ℕ → D.Case → List ℕ) (s c e : List ℕ) (r : Case) where
  pub printed_refused : r ≡ as_case (read_case s c e) → (r.number ≡ 0 → ⊥) → (o o1 : List ℕ) (n : ℕ)
      → Wrote 0 (refusal_text r.number r.paper r.line) o o1 n → Wrote 0 (or_refusal (print s) (read_case s c e)) o o1 n
  printed_refused told z o o1 n v = rw (case_wrong s c e r told z) v

  pub printed_case : (d : TheCase s c e r) (w : List ℕ) → w ≡ print s d.k → (o o1 : List ℕ) (n : ℕ) → Wrote 0 w o o1 n
      → Wrote 0 (or_refusal (print s) (read_case s c e)) o o1 n
  printed_case d w is o o1 n v = rw d.q (rw is at v)
