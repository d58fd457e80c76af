-- What the code answers for what the meaning reads of an event line.
use Rattle.std.specs.Prelude.{ℕ, suc, Bool, true, false, not, ◌||◌, List, [], Result, Ok, Err, Option, Some, None}
use Rattle.meaning.specs.Text.{text, is_in}
use Rattle.meaning.specs.Refusal.{LINE, NAME}
use Rattle.meaning.specs.Reading.{Got, Reader, ◌>>=◌, ◌>>◌, give, demand, choose, stands, due}
use Rattle.meaning.specs.Name.{Name, new_name, known}
use Rattle.meaning.specs.Sheet as M
use Rattle.meaning.specs.ReadSheet.{carried}
use Rattle.theory.specs.Reading.Piece as R
use Rattle.reply.specs.declared.Fault.{Fault}
use Rattle.reply.specs.declared.Fault.TheVariants as F
use Rattle.reply.specs.Faults.{fault_of}
use Rattle.text.specs.declared.Taken.{Taken}

-- the line's end, where an LF stands
abbrev pub end_of : Bool → Result (Option (Taken ℕ)) Fault
end_of true = Ok None
end_of false = Err F.Line

-- the next piece of an event's line, behind the fields that are carried so far: a space and a field that is none of those, or LF. `full`: as many as there
-- are fields are carried
unfoldable pub piece : List Name → Bool → List ℕ → Reader (Option ℕ)
piece fields full so = do
  more ← stands (text " ")
  choose more
      (do
        f ← known fields
        demand NAME (not (full || is_in f so))
        give (Some f))
      (do
        due LINE (text "\n")
        give None)

-- a field with the bytes that it took, or nothing; or the fault
abbrev pub field_of : Option ℕ → ℕ → Option (Taken ℕ)
field_of None n = None
field_of (Some f) n = Some (record { value = f; bytes = n })

abbrev pub as_piece : List ℕ → Got (Option ℕ) → Result (Option (Taken ℕ)) Fault
as_piece = R.as_piece field_of fault_of

-- an event, behind its key: a name that is not used yet, and the fields that it carries, at most so many
abbrev pub event : List Name → ℕ → List Name → Reader M.Event
event fields most used = new_name used >>= λ n. carried fields (suc most) [] >>= λ fs. give (record { name = n; carries = fs })
