-- What the code answers for the pieces of the start of a rule's line.
use Rattle.std.specs.Prelude.{ℕ, Bool, true, false, List, Result, Option, Some, None}
use Rattle.meaning.specs.Reading.{Got, got, wrong}
use Rattle.meaning.specs.Sheet as M
use Rattle.meaning.specs.Sheet.{Sign}
use Rattle.reply.specs.declared.Fault.{Fault}
use Rattle.text.specs.declared.Taken.{Taken}
use Rattle.text.specs.Pieces.{as_taken}
use Rattle.sheet_tables.specs.declared.Trigger.{Trigger}
use Rattle.sheet_tables.specs.declared.Trigger.TheVariants.{Rise, Fall}
use Rattle.sheet_tables.specs.Rules.{is_plus, as_trigger}

-- whether a sign is `+`, if one stands
abbrev pub as_sign : Got Sign → Option Bool
as_sign (got g l t) = Some (is_plus g)
as_sign (wrong n l) = None

-- a status that rises, or one that falls
abbrev pub moved : Bool → ℕ → Trigger
moved true x = Rise x
moved false x = Fall x

-- a trigger, and how many bytes it took; or the fault
abbrev pub as_triggered : List ℕ → Got M.Trigger → Result (Taken Trigger) Fault
as_triggered = as_taken as_trigger
