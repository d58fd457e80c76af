-- Why, for a case that was read, on its tables: what is told of a row, of a status and of all, and what is returned. What is told of a row or a closing is one
-- number, its line x 10 + the kind.
use Rattle.std.specs.Prelude.{ℕ, zero, suc, ◌+◌, ◌*◌, ◌-◌, ◌/◌, ◌%◌, ◌≤◌, ◌<◌, ◌≡◌, not, cond, Option, Some, None, List, [], ◌∷◌, ◌++◌, map, eqb, ltb, leb, length, get_or, take, drop, set, replicate}
use Rattle.std.proofs.lemmas.List.Edits.{sets}
use Rattle.meaning.specs.Text.{keep, joined, from}
use Rattle.meaning.specs.Refusal.{ROOM}
use Rattle.meaning.specs.Limits.{field_limit, event_limit}
use Rattle.meaning.specs.Tests.{up, down}
use Rattle.limits.specs.Sizes.{node_room, test_room}
use Rattle.marks.specs.Codes.{yes_at}
use Rattle.sheet_tables.specs.Heads.{Sized}
use Rattle.graph_tests.specs.declared.Test.{Test}
use Rattle.step_plan.specs.declared.Plan.{Plan}
use Rattle.step_test.specs.declared.Moment.{Moment}
use Rattle.step_test.specs.declared.Stop.{Stop}
use Rattle.step_test.specs.declared.Stop.TheVariants.{TriggerNotMet, HomeNotOpen, ConditionFalse, ConditionUnknown}
use Rattle.step_test.specs.Met.{stop_of}
use Rattle.step_run.specs.Run.{start_of, run_over}
use Rattle.step_sheet.specs.declared.Accepted.{Accepted}
use Rattle.reply.specs.declared.Reply.{Reply}
use Rattle.reply.specs.Answers.{refused_reply}
use Rattle.why_case.specs.declared.Spans.{Spans}
use Rattle.why_case.specs.declared.Facts.{Facts}
use Rattle.why_case.specs.declared.Status.{Status}

-- the line of the first status at most: behind one for the model and one for each field and event
abbrev pub first_status : ℕ
first_status = 2 + field_limit + event_limit

-- WHERE THE ROWS OF A NODE STAND

-- the order names nodes of statuses
abbrev pub LowNodes : Plan → Type 0
LowNodes p = (i : ℕ) → get_or p.order i 0 < node_room

-- of the nodes of the order from place i on: between the end before and its own
unfoldable pub spans_from : Plan → ℕ → List ℕ → Spans → Spans
spans_from p i [] s = s
spans_from p i (k ∷ o) s = spans_from p (suc i) o (record { from = set s.from k (start_of p i); to = set s.to k (get_or p.ends i 0) })

-- of all nodes
unfoldable pub spans_of : Plan → Spans
spans_of p = spans_from p 0 (take p.nodes p.order) (record { from = replicate node_room 0; to = replicate node_room 0 })

-- ONE ROW

-- the kinds of what stopped a row
abbrev pub stop_kind : Stop → ℕ
stop_kind TriggerNotMet = 3
stop_kind HomeNotOpen = 4
stop_kind ConditionFalse = 5
stop_kind ConditionUnknown = 6

-- a row that nothing stopped held, which is kind 1
abbrev pub kind_code : Option Stop → ℕ
kind_code None = 1
kind_code (Some s) = stop_kind s

-- its line and kind; an implied row stands on no line, and nothing is told of it
unfoldable pub row_told : List ℕ → Moment → List ℕ → Test → ℕ
row_told words m after t = cond (eqb t.line 0) 0 (t.line * 10 + kind_code (stop_of words m after t))

-- what is told of rows and closings stays below this
abbrev pub Low : List ℕ → Type 0
Low told = (j : ℕ) → get_or told j 0 < 1000000

-- ONE STATUS

-- the node of the change that it could have made
abbrev pub node_of : List ℕ → ℕ → ℕ
node_of before x = cond (yes_at before x) (down x) (up x)

-- closed with the parent that the code names, kind 2, where the first status stands on `line`
abbrev pub closed_told : ℕ → ℕ → ℕ
closed_told line zero = 0
closed_told line (suc p) = (line + p) * 10 + 2

-- what is looked up of a status
unfoldable pub status_of : Facts → ℕ → Status
status_of f x = record {
  changed = not (eqb (get_or f.before x 0) (get_or f.after x 0));
  from = get_or f.from (node_of f.before x) 0;
  to = get_or f.to (node_of f.before x) 0;
  closed = closed_told f.line (get_or f.under x 0);
}

-- the first row that held, or what is told where none did
unfoldable pub first_held : List ℕ → ℕ → ℕ
first_held [] other = other
first_held (c ∷ cs) other = cond (eqb (c % 10) 1) c (first_held cs other)

-- the rows that were stopped
unfoldable pub stops : List ℕ → List ℕ
stops cs = keep (λ c. ltb 1 (c % 10)) cs

-- nothing is told by 0
abbrev pub told : ℕ → List ℕ
told zero = []
told (suc c) = suc c ∷ []

-- the rows between the status' two places
abbrev pub between : ℕ → ℕ → List ℕ → List ℕ
between from to rows = take (to - from) (drop from rows)

-- "(status x 1000 + line) x 10 + kind"
abbrev pub reason : ℕ → ℕ → ℕ
reason x c = x * 10000 + c

-- of a status that changed its one reason, of another one for each row that was stopped
unfoldable pub reasons_for : Status → List ℕ → ℕ → List ℕ
reasons_for s rows x =
    map (reason x) (cond s.changed (told (first_held (between s.from s.to rows) s.closed)) (stops (between s.from s.to rows)))

-- ALL STATUSES

-- of n statuses from x on
unfoldable pub all_from : Facts → List ℕ → ℕ → ℕ → List ℕ
all_from f rows x n = joined (λ x. reasons_for (status_of f x) rows x) (from x n)

-- a list put behind the first n numbers
pub record Put (l : List ℕ) (n r : ℕ) (before after : List ℕ) : Type 0 where
  pub count : r ≡ n + length l
  pub list : after ≡ sets before n l

-- A SHEET AT A MOMENT
module _ (a : Accepted) (m : Moment) where
  -- what is told of its rows, on the marks after the step
  unfoldable pub rows_told : List ℕ
  rows_told = map (row_told a.words m (run_over a.words m a.plan)) a.plan.rows

  -- the line of the first status: behind those of the model, the fields and the events
  abbrev pub first_line : ℕ
  first_line = 2 + a.heads.fields + a.heads.events

  -- and what they are told from beside them
  unfoldable pub facts_of : Facts
  facts_of = record {
    before = m.before;
    after = run_over a.words m a.plan;
    from = (spans_of a.plan).from;
    to = (spans_of a.plan).to;
    under = a.heads.under;
    line = first_line;
  }

  -- the reasons, two nodes for each status
  unfoldable pub list_of : List ℕ
  list_of = all_from facts_of rows_told 0 (a.plan.nodes / 2)

  -- what is returned, where so much room is lent
  unfoldable pub reply_for : ℕ → Reply
  reply_for room = cond (leb (length list_of) room) (record { number = 0; paper = 0; line = 0; count = length list_of; tasks = 0 }) (refused_reply ROOM 0 0)

  -- and what the space then holds
  unfoldable pub space_for : List ℕ → List ℕ
  space_for lent = cond (leb (length list_of) (length lent)) (list_of ++ drop (length list_of) lent) lent

-- what a caller sees to: tables and nodes within their limits, and no more reasons than rules and child stages
pub record Ready (a : Accepted) (m : Moment) : Type 0 where
  pub sized : Sized a.heads
  pub few_nodes : a.plan.nodes ≤ node_room
  pub low_nodes : LowNodes a.plan
  pub few : length (list_of a m) ≤ test_room
