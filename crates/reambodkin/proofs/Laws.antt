-- The doors, return by return: what is known there, and the answer that is asked.
use Prim.Native.Nat.{ℕ}
use mathlib.Core.Path.{◌≡◌, ◌∙◌}
use mathlib.Core.List.{List}
use lib.ListN.{length}
use Rattle.meaning.specs.Doors.{read_case, step_answer, outlook_answer, why_answer, step_reply, step_space, outlook_reply, outlook_space, why_reply, why_space}
use Rattle.theory.specs.Requests.Cases.{at}
use Rattle.reply.specs.declared.Reply.{Reply}
use Rattle.reply.specs.Answers.{as_reply, refused_reply}
use Rattle.step_test.specs.declared.Moment.{Moment}
use Rattle.step_test.specs.Codes.{as_moment}
use Rattle.step_moment.specs.Tables.{moment_of}
use Rattle.card_write.specs.Answers.{space_with}
use Rattle.case_read.specs.declared.Case.{Case}
use Rattle.case_read.specs.Answers.{as_case}
use Rattle.case_read.proofs.Callers.{TheCase, the_case, case_moment, request_refused, request_untouched}
use Rattle.step_case.specs.Next.{text_after, reply_after}
use Rattle.step_case.proofs.Callers.{reply_after_lem, space_after}
use Rattle.outlook_case.specs.Patterns.{Ready, reply_for, space_for}
use Rattle.outlook_case.proofs.Callers.{ready, reply_outlook, space_outlook}
use Rattle.why_case.specs.Reasons as Why
use Rattle.why_case.proofs.Callers as WhyCallers

-- A PAPER IS REFUSED
module _ (s c e : List ℕ) (x : Case) (told : x ≡ as_case (read_case s c e)) (z : x.number ≡ 0 → ⊥) (lent : List ℕ) where
  pub step_told : (r : Reply) → r ≡ refused_reply x.number x.paper x.line → r ≡ as_reply (step_reply s c e (length lent))
  unfolding step_reply step_answer
  step_told = request_refused _ s c e x told z _ _

  pub step_untouched : lent ≡ step_space s c e lent
  unfolding step_space step_answer
  step_untouched = request_untouched _ s c e x told z _ lent

  pub outlook_told : (r : Reply) → r ≡ refused_reply x.number x.paper x.line → r ≡ as_reply (outlook_reply s c e (length lent))
  unfolding outlook_reply outlook_answer
  outlook_told = request_refused _ s c e x told z _ _

  pub outlook_untouched : lent ≡ outlook_space s c e lent
  unfolding outlook_space outlook_answer
  outlook_untouched = request_untouched _ s c e x told z _ lent

  pub why_told : (r : Reply) → r ≡ refused_reply x.number x.paper x.line → r ≡ as_reply (why_reply s c e (length lent))
  unfolding why_reply why_answer
  why_told = request_refused _ s c e x told z _ _

  pub why_untouched : lent ≡ why_space s c e lent
  unfolding why_space why_answer
  why_untouched = request_untouched _ s c e x told z _ lent

-- ALL PAPERS ARE TAKEN
module _ (s c e : List ℕ) (x : Case) (told : x ≡ as_case (read_case s c e)) (zero : x.number ≡ 0) where
  abbrev d : TheCase s c e x
  d = the_case s c e x told zero

  pub step_reply_lem : (lent : List ℕ) (r : Reply) → r ≡ reply_after x.sheet x.card x.happening c e (length lent)
      → r ≡ as_reply (step_reply s c e (length lent))
  unfolding step_reply step_answer
  step_reply_lem lent r f = f ∙ rw (d.is, d.q) (reply_after_lem s c e d.k d.q (length lent))

  pub step_written : (lent now : List ℕ) → now ≡ space_with lent (text_after x.sheet x.card x.happening c e) → now ≡ step_space s c e lent
  unfolding step_space step_answer
  step_written lent now f = f ∙ rw (d.is, d.q) (space_after s c e d.k d.q lent)

  module _ (m : Moment) (moment : m ≡ moment_of x.card x.happening) where
    at_it : m ≡ as_moment (at d.k)
    at_it = case_moment s c e x told zero m moment

    pub outlook_ready : Ready x.sheet m
    outlook_ready = rw (d.is, at_it) (ready s c e d.k d.q)

    pub outlook_reply_lem : (lent : List ℕ) (r : Reply) → r ≡ reply_for x.sheet m (length lent) → r ≡ as_reply (outlook_reply s c e (length lent))
    unfolding outlook_reply outlook_answer
    outlook_reply_lem lent r f = f ∙ rw (d.is, at_it, d.q) (reply_outlook s c e d.k d.q (length lent))

    pub outlook_written : (lent now : List ℕ) → now ≡ space_for x.sheet m lent → now ≡ outlook_space s c e lent
    unfolding outlook_space outlook_answer
    outlook_written lent now f = f ∙ rw (d.is, at_it, d.q) (space_outlook s c e d.k d.q lent)

    pub why_ready : Why.Ready x.sheet m
    why_ready = rw (d.is, at_it) (WhyCallers.ready s c e d.k d.q)

    pub why_reply_lem : (lent : List ℕ) (r : Reply) → r ≡ Why.reply_for x.sheet m (length lent) → r ≡ as_reply (why_reply s c e (length lent))
    unfolding why_reply why_answer
    why_reply_lem lent r f = f ∙ rw (d.is, at_it, d.q) (WhyCallers.reply_why s c e d.k d.q (length lent))

    pub why_written : (lent now : List ℕ) → now ≡ Why.space_for x.sheet m lent → now ≡ why_space s c e lent
    unfolding why_space why_answer
    why_written lent now f = f ∙ rw (d.is, at_it, d.q) (WhyCallers.space_why s c e d.k d.q lent)

pub ruleset stepping = (step_told, step_untouched, step_reply_lem, step_written)

pub ruleset listing = (outlook_told, outlook_untouched, outlook_ready, outlook_reply_lem, outlook_written)

pub ruleset telling = (why_told, why_untouched, why_ready, why_reply_lem, why_written)
