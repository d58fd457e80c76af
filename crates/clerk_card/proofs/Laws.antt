-- What `clerk card` prints for three papers, return by return: what is known there, and the answer that is asked.
use Prim.Native.Nat.{ℕ, ◌≤◌}
use mathlib.Core.Path.{◌≡◌, ◌∙◌, ap}
use mathlib.Core.List.{List}
use native.Mathlib.Omega.{arith}
use lib.ListN.{length}
use Rattle.meaning.specs.Doors as D
use Rattle.meaning.specs.Doors.{read_case, next}
use Rattle.meaning.specs.Clerk.{card_printed}
use Rattle.reply.specs.declared.Reply.{Reply}
use Rattle.theory.specs.Writing.Lent.{Wrote}
use Rattle.card_write.specs.Answers.{space_with}
use Rattle.case_read.specs.declared.Case.{Case}
use Rattle.case_read.specs.Answers.{as_case}
use Rattle.case_read.proofs.Callers.{TheCase, the_case, printed_case}
use Rattle.desk_rooms.specs.Rooms.{card_room}
use Rattle.step_case.specs.Next.{text_after, reply_after}
use Rattle.step_case.proofs.Callers.{text_after_lem, next_few, card_written}

-- what is printed for a case, and for three papers
abbrev pub of_case : List ℕ → D.Case → List ℕ
of_case sheet k = (next k).card

abbrev pub of_papers : List ℕ → List ℕ → List ℕ → List ℕ
of_papers sheet card event = card_printed (read_case sheet card event)

module _ (s c e : List ℕ) (x : Case) (told : x ≡ as_case (read_case s c e)) (zero : x.number ≡ 0) where
  abbrev d : TheCase s c e x
  d = the_case s c e x told zero

  text_is : text_after x.sheet x.card x.happening c e ≡ (next d.k).card
  text_is = ap (λ (x : Case). text_after x.sheet x.card x.happening c e) d.is ∙ text_after_lem s c e d.k d.q

  pub case_done : (o : List ℕ) → card_room ≤ length o → (o1 : List ℕ) (r : Reply) → r ≡ reply_after x.sheet x.card x.happening c e (length o)
      → o1 ≡ space_with o (text_after x.sheet x.card x.happening c e) → Wrote 0 (card_printed (read_case s c e)) o o1 r.count
  unfolding card_printed
  case_done o room o1 r answer space =
      let few : length (text_after x.sheet x.card x.happening c e) ≤ length o = rw text_is (omega (arith, next_few s c e d.k d.q)) in
      printed_case of_case s c e x d (text_after x.sheet x.card x.happening c e) text_is o o1 r.count
      (card_written x.sheet x.card x.happening c e o few o1 r answer space)

pub ruleset casing = (case_done)
