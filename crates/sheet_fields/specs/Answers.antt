-- What the code answers for the lines of the model and of a field.
use Rattle.std.specs.Prelude.{List, Result}
use Rattle.std.specs.Prelude.{ℕ}
use Rattle.meaning.specs.Refusal.{LINE}
use Rattle.meaning.specs.Reading.{Got, Reader, ◌>>=◌, ◌>>◌, give, line_end}
use Rattle.meaning.specs.Name.{Name, new_name}
use Rattle.meaning.specs.Sheet.{Heads}
use Rattle.reply.specs.declared.Fault.{Fault}
use Rattle.text.specs.declared.Taken.{Taken}
use Rattle.text.specs.Pieces.{as_taken}
use Rattle.name.specs.declared.Name.{Name as Kept}
use Rattle.name.specs.Names.{kept}

-- the model's name, as it is kept, and the bytes of its line
abbrev pub as_model : List ℕ → Got Heads → Result (Taken Kept) Fault
as_model = as_taken (λ hd. kept hd.model)

-- a field, behind its key: a name that is not used yet, and the line's end
abbrev pub field : List Name → Reader Name
field used = new_name used >>= λ w. line_end LINE >> give w
