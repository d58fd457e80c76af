-- What the code answers for a status's line, and stages and miles alike.
use Rattle.std.specs.Prelude.{ℕ, Bool, true, false, List, Result}
use Rattle.std.proofs.Math.Option.{Option, none, some}
use Rattle.meaning.specs.Text.{text}
use Rattle.meaning.specs.Reading.{Got, Reader, ◌>>=◌, choose, give, stands}
use Rattle.meaning.specs.Name.{Name, new_name, known}
use Rattle.meaning.specs.Sheet as M
use Rattle.meaning.specs.Sheet.{Heads, with_stage, with_mile}
use Rattle.meaning.specs.ReadSheet.{under, status_lines}
use Rattle.theory.specs.Papers.Formed.{NoStages, NoMiles}
use Rattle.reply.specs.declared.Fault.{Fault}
use Rattle.text.specs.declared.Taken.{Taken}
use Rattle.text.specs.Pieces.{as_taken}
use Rattle.name.specs.Names.{kept}
use Rattle.sheet_tables.specs.Heads.{under_code}
use Rattle.sheet_statuses.specs.declared.Status.{Status}

-- a parent or home, or none, in one number
abbrev pub as_under : List ℕ → Got (Option ℕ) → Result (Taken ℕ) Fault
as_under = as_taken under_code

-- a space and one of the stages, or nothing
unfoldable pub over : List Name → Reader (Option ℕ)
over stages = stands (text " ") >>= λ more. choose more (known stages >>= λ i. give (some i)) (give none)

-- a status
abbrev pub as_status : M.Status → Status
as_status x = record { name = kept x.name; under = under_code x.under }

-- a status, behind its key: a name that is not used yet, and what ends its line
abbrev pub status : List Name → List Name → Reader M.Status
status used stages = new_name used >>= λ n. under stages >>= λ p. give (record { name = n; under = p })

-- STAGES AND MILES are read alike: `true` for miles

abbrev pub status_key : Bool → List ℕ
status_key false = text "stage="
status_key true = text "mile="

-- one more of them
abbrev pub with_status : Bool → Heads → M.Status → Heads
with_status false = with_stage
with_status true = with_mile

-- their lines
abbrev pub lines_of : Bool → Heads → Reader Heads
lines_of miles = status_lines (status_key miles) (with_status miles)

-- what is not read before them,
abbrev pub Before : Bool → Heads → Type 0
Before false = NoStages
Before true = NoMiles

-- and behind them
abbrev pub Behind : Bool → Heads → Type 0
Behind false hd = NoMiles hd
Behind true hd = Unit {0}
