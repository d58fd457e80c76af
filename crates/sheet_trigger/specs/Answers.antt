-- What the code answers for the start of a rule's line, up to ` if `.
use Rattle.std.specs.Prelude.{ℕ, List, Result}
use Rattle.meaning.specs.Reading.{Got}
use Rattle.meaning.specs.ReadSheet.{Begun}
use Rattle.theory.specs.Reading.Piece.{as_piece}
use Rattle.reply.specs.declared.Fault.{Fault}
use Rattle.reply.specs.Faults.{fault_of}
use Rattle.sheet_tables.specs.Rules.{is_plus, as_trigger}
use Rattle.sheet_trigger.specs.declared.Start.{Start}

-- the start of a line, and how many bytes it took
abbrev pub start_at : Begun → ℕ → Start
start_at b n = record { plus = is_plus b.sign; status = b.status; trigger = as_trigger b.trigger; on = b.on; bytes = n }

-- or the fault
abbrev pub as_start : List ℕ → Got Begun → Result Start Fault
as_start = as_piece start_at fault_of
