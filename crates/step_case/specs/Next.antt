-- The step of a case that was read, on its tables: the marks after it, the next card as a text, the tasks, and what is returned.
use Rattle.std.specs.Prelude.{ℕ, cond, List, leb, length, take, replicate}
use Rattle.meaning.specs.Refusal.{ROOM}
use Rattle.meaning.specs.Step.{pattern}
use Rattle.meaning.specs.Limits.{status_limit}
use Rattle.reply.specs.declared.Reply.{Reply}
use Rattle.reply.specs.Answers.{refused_reply}
use Rattle.sheet_tables.specs.Heads.{heads_of}
use Rattle.case_tables.specs.declared.Card.{Card}
use Rattle.marks.specs.Codes.{side_of}
use Rattle.case_tables.specs.declared.Happening.{Happening}
use Rattle.step_run.specs.Run.{run_over}
use Rattle.step_moment.specs.Tables.{moment_of, mark_parents, task_marks}
use Rattle.card_write.specs.Texts.{next_text}
use Rattle.step_sheet.specs.declared.Accepted.{Accepted}

-- a sheet, and a card and an event line under it
module _ (a : Accepted) (c : Card) (h : Happening) where
  -- the marks after the step
  unfoldable pub marks_after : List ℕ
  marks_after = run_over a.words (moment_of c h) a.plan

  -- the next card
  unfoldable pub text_after : List ℕ → List ℕ → List ℕ
  text_after card event = next_text (heads_of a.heads) event card h c marks_after

  -- the tasks started
  unfoldable pub tasks_after : ℕ
  tasks_after =
      let n = a.heads.stages in
      pattern (side_of (take n (task_marks (mark_parents (replicate status_limit 0) (take n a.heads.under)) c.marks marks_after)))

  -- what is returned, where so much room is lent
  unfoldable pub reply_after : List ℕ → List ℕ → ℕ → Reply
  reply_after card event room =
      cond (leb (length (text_after card event)) room)
      (record { number = 0; paper = 0; line = 0; count = length (text_after card event); tasks = tasks_after })
      (refused_reply ROOM 0 0)
