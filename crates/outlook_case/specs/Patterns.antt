-- The outlook of a case that was read, on its tables: the pattern of a choice, the list of all, and what is returned.
use Rattle.std.specs.Prelude.{ℕ, ◌/◌, ◌≤◌, cond, Option, Some, None, List, ◌++◌, map, leb, ltb, length, take, drop}
use Rattle.meaning.specs.Text.{from}
use Rattle.meaning.specs.Refusal.{Answer, taken, refused, ROOM, MANY}
use Rattle.meaning.specs.Limits.{part_limit}
use Rattle.meaning.specs.Step.{pattern}
use Rattle.meaning.specs.Outlook.{ascending}
use Rattle.limits.specs.Sizes.{node_room, word_room}
use Rattle.sheet_tables.specs.Heads.{Sized}
use Rattle.marks.specs.Codes.{side_of}
use Rattle.step_plan.specs.declared.Plan.{Plan}
use Rattle.step_test.specs.declared.Moment.{Moment}
use Rattle.step_run.specs.Run.{run_over}
use Rattle.outlook_combos.specs.Numbered.{size, choice}
use Rattle.outlook_parts.specs.Tried.{Coded, tried_from}
use Rattle.step_sheet.specs.declared.Accepted.{Accepted}
use Rattle.reply.specs.declared.Reply.{Reply}
use Rattle.reply.specs.Answers.{refused_reply}

-- the pattern of the step at a moment; two nodes for each status
unfoldable pub pattern_of : List ℕ → Plan → Moment → ℕ
pattern_of words p m = pattern (side_of (take (p.nodes / 2) (run_over words m p)))

-- what stays the same for all choices
pub record Fixed : Type 0 where
  pub plan : Plan
  pub words : List ℕ
  pub event : ℕ
  pub before : List ℕ

abbrev pub fixed : Plan → List ℕ → Moment → Fixed
fixed p words m = record { plan = p; words = words; event = m.event; before = m.before }

-- the pattern of the step with these values
abbrev pub pattern_at : Fixed → List ℕ → ℕ
pattern_at x values = pattern_of x.words x.plan (record { event = x.event; values = values; before = x.before })

-- the patterns of n choices from number x on, ascending, each once
unfoldable pub patterns_from : Fixed → List (List ℕ) → ℕ → ℕ → List ℕ
patterns_from X rs x n = ascending (map (λ y. pattern_at X (choice rs y)) (from x n))

-- a sheet at a moment
module _ (a : Accepted) (m : Moment) where
  abbrev pub fixed_of : Fixed
  fixed_of = fixed a.plan a.words m

  -- the values to be tried in each field
  unfoldable pub tried_of : List (List ℕ)
  tried_of = tried_from (take a.top a.words) a.heads.fields 0 m.values

  -- the patterns of all choices
  unfoldable pub list_of : List ℕ
  list_of = patterns_from fixed_of tried_of 0 (size tried_of)

  -- the list, or MANY
  unfoldable pub answer_of : Answer (List ℕ)
  answer_of = cond (ltb part_limit (size tried_of)) (refused MANY 0 0) (taken list_of)

  -- how many patterns there are; none is told where the answer is MANY
  unfoldable pub as_listed : Option ℕ
  as_listed = cond (ltb part_limit (size tried_of)) None (Some (length list_of))

  -- the list in an array of its own
  unfoldable pub list_space : List ℕ → List ℕ
  list_space was = cond (ltb part_limit (size tried_of)) was (list_of ++ drop (length list_of) was)

  -- what is returned, where so much room is lent: MANY comes before ROOM
  unfoldable pub reply_for : ℕ → Reply
  reply_for room =
      cond (ltb part_limit (size tried_of)) (refused_reply MANY 0 0)
      (cond (leb (length list_of) room) (record { number = 0; paper = 0; line = 0; count = length list_of; tasks = 0 }) (refused_reply ROOM 0 0))

  -- and what the space then holds
  unfoldable pub space_for : List ℕ → List ℕ
  space_for lent = cond (ltb part_limit (size tried_of)) lent (cond (leb (length list_of) (length lent)) (list_of ++ drop (length list_of) lent) lent)

-- what a caller sees to: tables, nodes, words and values within their limits
pub record Ready (a : Accepted) (m : Moment) : Type 0 where
  pub sized : Sized a.heads
  pub few_nodes : a.plan.nodes ≤ node_room
  pub few_words : a.top ≤ word_room
  pub coded : Coded m.values
