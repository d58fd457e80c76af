-- What is known where a section begins.
use Rattle.std.specs.Prelude.{ℕ, ◌+◌, ◌*◌, ◌≤◌, ◌≡◌, List, length, Result, IfOk}
use Rattle.meaning.specs.Text.{joined}
use Rattle.meaning.specs.Limits.{field_limit, event_limit, status_limit}
use Rattle.meaning.specs.Sheet.{Heads, Event, all_names}
use Rattle.theory.specs.Papers.Formed.{WellHeads}
use Rattle.theory.specs.Lists.Padded.{padded}
use Rattle.name.specs.Names.{Again}
use Rattle.sheet_tables.specs.Heads.{as_heads}
use Rattle.sheet_section.specs.declared.Above.{Above}

-- the fields that an event carries, as the tables have them
abbrev pub carried_row : Event → List ℕ
carried_row e = padded field_limit 0 e.carries

-- names are told by their numbers, and the sections within their limits
pub record Plain (hd : Heads) : Type 0 where
  pub names : Again (all_names hd)
  pub carried : length (joined carried_row hd.events) ≡ field_limit * length hd.events
  pub few_fields : length hd.fields ≤ field_limit
  pub few_events : length hd.events ≤ event_limit
  pub few_statuses : length hd.stages + length hd.miles ≤ status_limit

-- the sheet come to, of which Q says what is not yet read; each line before took a byte at least
pub record Reached (Q : Heads → Type 0) (s : List ℕ) (a : Above) : Type 0 where
  pub sheet : Heads
  pub late : Q sheet
  pub well : WellHeads sheet
  pub heads : a.heads ≡ as_heads sheet
  pub within : a.at ≤ length s
  pub lines : a.line ≤ a.at

-- where a section begins: the sheet come to, or a refusal, whatever it is told by
abbrev pub Started : {W : Type 0} → (Heads → Type 0) → List ℕ → Result Above W → Type 0
Started Q s before = IfOk before (Reached Q s)
