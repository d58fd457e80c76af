-- What the code answers for the parts of a rule's line.
use Rattle.std.specs.Prelude.{ℕ, ◌+◌, ◌^◌, ◌≤◌, ◌<◌, List, Result}
use Rattle.std.proofs.Math.Option.{Option}
use Rattle.meaning.specs.Reading.{Got}
use Rattle.meaning.specs.Condition.{Cond}
use Rattle.meaning.specs.Sheet.{leaves_of}
use Rattle.reply.specs.declared.Fault.{Fault}
use Rattle.limits.specs.Sizes.{word_room}
use Rattle.cond_item.specs.declared.Place.{Place}
use Rattle.cond_item.specs.Answers.{as_place}
use Rattle.sheet_tables.specs.Rules.{words_of}
use Rattle.sheet_trigger.specs.declared.Start.{Start}
use Rattle.sheet_rule.specs.declared.Row.{Row}

-- the end of a line, with its condition or without one
abbrev pub as_ending : List ℕ → ℕ → ℕ → Got (Option Cond) → Result Place Fault
as_ending s top leaves g = as_place words_of leaves_of s top leaves g

-- a rule of the start of its line and of the end, whose words begin at `top`
abbrev pub row_of : Start → Place → ℕ → Row
row_of a p top = record {
  rule = record { plus = a.plus; status = a.status; trigger = a.trigger; from = top; to = p.top };
  bytes = a.bytes + p.bytes;
  top = p.top;
  leaves = p.leaves;
}

-- the numbers of such a rule are small
pub record Fit (a : Start) (p : Place) (top : ℕ) : Type 0 where
  pub from : top ≤ word_room
  pub to : p.top ≤ word_room
  pub bytes : a.bytes + p.bytes < 2 ^ 64
