-- The step, return by return: what is known there, and the answer that is asked.
use Prim.Native.Nat.{ℕ, ◌≤◌}
use mathlib.Core.Path.{◌≡◌, refl, sym, ◌∙◌, ap}
use mathlib.Core.Bool.{Bool, true, false, cond}
use mathlib.Core.List.{List}
use native.Mathlib.Omega.{arith}
use lib.Dec.{leb}
use lib.ListN.{length, take, replicate}
use Rattle.std.specs.Prelude.{Option, Some, None}
use Rattle.meaning.specs.Step.{pattern}
use Rattle.meaning.specs.Limits.{status_limit}
use Rattle.reply.specs.declared.Reply.{Reply}
use Rattle.reply.specs.Answers.{refused_reply}
use Rattle.sheet_tables.specs.declared.Heads.{Heads}
use Rattle.sheet_tables.specs.Heads.{Sized, heads_of}
use Rattle.case_tables.specs.declared.Card.{Card}
use Rattle.marks.specs.Codes.{side_of}
use Rattle.case_tables.specs.declared.Happening.{Happening}
use Rattle.step_test.specs.declared.Moment.{Moment}
use Rattle.step_run.specs.Run.{run_over}
use Rattle.step_moment.specs.Tables.{moment_of, mark_parents, task_marks}
use Rattle.card_write.specs.Texts.{next_text}
use Rattle.card_write.specs.Answers.{as_written, space_with}
use Rattle.step_sheet.specs.declared.Accepted.{Accepted}
use Rattle.step_case.specs.Next.{marks_after, text_after, tasks_after, reply_after}

pub next_stages : (h : Heads) → Sized h → h.stages ≤ status_limit
next_stages h sized = omega (arith, sized.few_statuses)

module _ (a : Accepted) (c : Card) (h : Happening) (card event was : List ℕ) (m : Moment) (at : m ≡ moment_of c h) (marks : List ℕ)
    (ran : marks ≡ run_over a.words m a.plan) where
  marks_are : marks ≡ marks_after a c h
  unfolding marks_after
  marks_are = ran ∙ ap (λ (m : Moment). run_over a.words m a.plan) at

  abbrev t : List ℕ
  t = next_text (heads_of a.heads) event card h c marks

  text_is : t ≡ text_after a c h card event
  unfolding text_after
  text_is = ap (next_text (heads_of a.heads) event card h c) marks_are

  pub next_space : (now : List ℕ) → now ≡ space_with was (next_text (heads_of a.heads) event card h c marks)
      → now ≡ space_with was (text_after a c h card event)
  next_space now e = e ∙ ap (space_with was) text_is

  fits_told : (b : Bool) → leb (length (text_after a c h card event)) (length was) ≡ b
      → as_written was t ≡ cond b (Some (length (text_after a c h card event))) None
  unfolding as_written
  fits_told b e = ap (as_written was) text_is ∙ ap (λ b. cond b (Some (length (text_after a c h card event))) None) e

  module _ (w : Option ℕ) (is : w ≡ as_written was (next_text (heads_of a.heads) event card h c marks)) where
    pub next_room : w ≡ None → (r : Reply) → r ≡ refused_reply 9 0 0 → r ≡ reply_after a c h card event (length was)
    unfolding reply_after
    next_room room r e = go (leb (length (text_after a c h card event)) (length was)) refl
      where
        go : (b : Bool) → leb (length (text_after a c h card event)) (length was) ≡ b
            → r ≡ cond (leb (length (text_after a c h card event)) (length was))
            (record { number = 0; paper = 0; line = 0; count = length (text_after a c h card event); tasks = tasks_after a c h }) (refused_reply 9 0 0)
        go false q = e ∙ rw q
        go true q = let z : None ≡ Some (length (text_after a c h card event)) = sym room ∙ is ∙ fits_told true q in let y : ◌≡◌ {A = ℕ} 0 1 = cc in
            absurd (omega arith)

    pub next_reply : (n : ℕ) → w ≡ Some n → (tasks : ℕ)
        → tasks ≡ pattern (side_of (take a.heads.stages
        (task_marks (mark_parents (replicate status_limit 0) (take a.heads.stages a.heads.under)) c.marks marks)))
        → ◌≡◌ {A = Reply} (record { number = 0; paper = 0; line = 0; count = n; tasks = tasks }) (reply_after a c h card event (length was))
    unfolding reply_after tasks_after
    next_reply n told tasks e = go (leb (length (text_after a c h card event)) (length was)) refl
      where
        tasks_are : tasks ≡ tasks_after a c h
        tasks_are = e
            ∙ ap (λ m. pattern (side_of (take a.heads.stages
            (task_marks (mark_parents (replicate status_limit 0) (take a.heads.stages a.heads.under)) c.marks m)))) marks_are

        go : (b : Bool) → leb (length (text_after a c h card event)) (length was) ≡ b
            → ◌≡◌ {A = Reply} (record { number = 0; paper = 0; line = 0; count = n; tasks = tasks })
            (cond (leb (length (text_after a c h card event)) (length was))
            (record { number = 0; paper = 0; line = 0; count = length (text_after a c h card event); tasks = tasks_after a c h }) (refused_reply 9 0 0))
        go true q = let z : Some n ≡ Some (length (text_after a c h card event)) = sym told ∙ is ∙ fits_told true q in
            let y : n ≡ length (text_after a c h card event) = cc in rw (q, y, tasks_are)
        go false q = let z : Some n ≡ None = sym told ∙ is ∙ fits_told false q in let y : ◌≡◌ {A = ℕ} 0 1 = cc in absurd (omega arith)

pub ruleset stepping = (next_stages, next_space, next_room, next_reply)
