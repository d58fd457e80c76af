-- What a caller may conclude: on the tables of a case that was read, the marks are those to which its testing order leads, the text is the next card,
-- and the answer is the step's; and what the reply tells of any tables.
use Prim.Native.Nat.{ℕ, ◌+◌, ◌-◌, ◌≤◌}
use mathlib.Core.Path.{◌≡◌, refl, sym, ◌∙◌, ap, subst}
use mathlib.Core.Bool.{Bool, true, false, cond}
use mathlib.Core.List.{List, ◌++◌}
use native.Mathlib.Omega.{arith}
use borrow.Author.Tests.{le-leb}
use lib.Dec.{leb}
use lib.ListN.{length, drop, replicate}
use Rattle.meaning.specs.Refusal.{taken, refused, ROOM}
use Rattle.meaning.specs.Sheet as M
use Rattle.meaning.specs.Sheet.{statuses}
use Rattle.meaning.specs.Step.{moment, put_in, pattern}
use Rattle.meaning.specs.Doors.{Case, read_case, Next, next, fitting, replied, written}
use Rattle.theory.specs.Papers.Formed.{Each}
use Rattle.theory.specs.Papers.Cards.{PutIn}
use Rattle.theory.specs.Papers.Case.{Papers, case_holds, Apart, case_apart}
use Rattle.theory.specs.Requests.Cases.{at, after, case_meets}
use Rattle.theory.specs.Writing.ReadBack.{longest_card, card_length, case_entries}
use Rattle.theory.specs.Lists.Padded.{padded}
use Rattle.limits.specs.Sizes.{word_room}
use Rattle.reply.specs.declared.Reply.{Reply}
use Rattle.reply.specs.Answers.{as_reply, refused_reply}
use Rattle.sheet_tables.specs.Heads.{as_heads}
use Rattle.sheet_tables.proofs.Tables.{heads_again}
use Rattle.case_tables.specs.declared.Card.{Card}
use Rattle.case_tables.specs.Cards.{as_card, as_happening}
use Rattle.marks.specs.Codes.{marked}
use Rattle.case_tables.specs.declared.Happening.{Happening}
use Rattle.sheet_tables.specs.Rules.{all_words}
use Rattle.step_test.specs.declared.Moment.{Moment}
use Rattle.step_run.specs.Run.{run_over}
use Rattle.step_run.proofs.Callers.{order_leads}
use Rattle.step_moment.proofs.Callers.{moment_is, tasks_are}
use Rattle.theory.specs.Writing.Lent.{Wrote}
use Rattle.card_write.specs.Texts.{next_text}
use Rattle.card_write.specs.Answers.{space_with}
use Rattle.card_write.proofs.Callers.{next_after}
use Rattle.step_sheet.specs.declared.Accepted.{Accepted}
use Rattle.step_sheet.specs.Answers.{taken_sheet}
use Rattle.step_sheet.proofs.Sheets.{accepted_fits}
use Rattle.step_case.specs.Next.{marks_after, text_after, tasks_after, reply_after}

module _ (s c e : List ℕ) (k : Case) (q : read_case s c e ≡ taken k) where
  papers : Papers k
  papers = case_holds s c e k q

  apart : Apart s c e k
  apart = case_apart s c e k q

  abbrev hd : M.Heads
  hd = k.sheet.heads

  -- the sheet, the card and the event line as the code has them
  abbrev a : Accepted
  a = taken_sheet (record { sheet = k.sheet; order = k.order })

  abbrev given : Card
  given = as_card k.sheet.heads k.card

  abbrev happened : Happening
  happened = as_happening k.sheet.heads k.happening

  full : length (at k).before ≡ length (statuses hd)
  unfolding moment
  full = papers.marked

  puts : Each (PutIn (length k.card.entries)) k.happening.puts
  puts = subst (λ n. Each (PutIn n) k.happening.puts) (sym papers.entries) papers.happening.puts

  after_marks : marks_after a given happened ≡ marked (after k)
  unfolding marks_after padded
  after_marks =
      ap (λ (m : Moment). run_over a.words m a.plan) (moment_is hd k.card k.happening puts)
      ∙ order_leads k.sheet papers.well (accepted_fits s (record { sheet = k.sheet; order = k.order }) apart.sheet) k.order papers.order
      (at k) full
      a.words (replicate (word_room - length (all_words k.sheet.rules)) 0) refl

  after_long : length (after k) ≡ length (statuses hd)
  after_long = (case_meets k papers).long ∙ full

  -- the text is the next card
  pub text_after_lem : text_after a given happened c e ≡ (next k).card
  unfolding text_after next moment marked
  text_after_lem =
      ap (λ h. next_text h e c happened given (marks_after a given happened)) (heads_again hd papers.well.heads)
      ∙ ap (next_text hd e c happened given) after_marks
      ∙ next_after hd papers.well.heads c e k.card k.happening apart.card apart.event given happened refl refl (after k) after_long

  -- which is not long
  pub next_few : length (next k).card ≤ longest_card
  unfolding next moment
  next_few =
      let (many, proper) = case_entries k papers in
      card_length hd papers.well.heads (put_in k.happening.puts k.card.entries) (after k) many after_long proper

  -- and the tasks are those started
  pub tasks_after_lem : tasks_after a given happened ≡ pattern (next k).tasks
  unfolding tasks_after next moment as_heads as_card marked
  tasks_after_lem =
      tasks_are hd papers.well.heads.statuses_few k.card.statuses (after k) (omega (arith, papers.marked, papers.well.heads.statuses_few))
      (omega (arith, after_long, papers.well.heads.statuses_few))
      (as_heads hd).under (as_heads hd).stages given.marks (marks_after a given happened) (tasks_after a given happened) refl refl refl after_marks refl

  -- so the answer and the space are the step's
  pub reply_after_lem : (room : ℕ) → reply_after a given happened c e room
      ≡ as_reply (replied (λ (n : Next). length n.card) (λ (n : Next). pattern n.tasks) (fitting (λ (n : Next). n.card) room (next k)))
  unfolding reply_after fitting replied
  reply_after_lem room = rw (text_after_lem, tasks_after_lem) (go (leb (length (next k).card) room))
    where
      go : (b : Bool)
          → cond b (record { number = 0; paper = 0; line = 0; count = length (next k).card; tasks = pattern (next k).tasks }) (refused_reply ROOM 0 0)
          ≡ as_reply (replied (λ (n : Next). length n.card) (λ (n : Next). pattern n.tasks) (cond b (taken (next k)) (refused ROOM 0 0)))
      go true = refl
      go false = refl

  pub space_after : (lent : List ℕ) → space_with lent (text_after a given happened c e)
      ≡ written (λ (n : Next). n.card) lent (fitting (λ (n : Next). n.card) (length lent) (next k))
  unfolding space_with fitting written
  space_after lent = rw text_after_lem (go (leb (length (next k).card) (length lent)))
    where
      go : (b : Bool) → cond b ((next k).card ++ drop (length (next k).card) lent) lent
          ≡ written (λ (n : Next). n.card) lent (cond b (taken (next k)) (refused ROOM 0 0))
      go true = refl
      go false = refl

-- WHAT THE REPLY TELLS, where the card fits; whatever the tables hold

module _ (a : Accepted) (given : Card) (happened : Happening) (c e o : List ℕ) (few : length (text_after a given happened c e) ≤ length o)
    (o1 : List ℕ) (r : Reply) (answer : r ≡ reply_after a given happened c e (length o)) (space : o1 ≡ space_with o (text_after a given happened c e)) where
  fits : leb (length (text_after a given happened c e)) (length o) ≡ true
  fits = le-leb (length (text_after a given happened c e)) (length o) few

  pub reply_stepped : r ≡ record { number = 0; paper = 0; line = 0; count = length (text_after a given happened c e); tasks = tasks_after a given happened }
  unfolding reply_after
  reply_stepped = answer ∙ rw fits

  pub card_written : Wrote 0 (text_after a given happened c e) o o1 r.count
  unfolding space_with
  card_written =
      let z : 0 + length (text_after a given happened c e) ≡ length (text_after a given happened c e) = omega arith in
      record { space = rw z (space ∙ rw fits); next = rw z (ap (λ (r : Reply). r.count) reply_stepped) }
