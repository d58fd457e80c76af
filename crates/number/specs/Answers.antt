-- What the code answers for what the meaning reads: one function for each type of answer.
use Rattle.std.specs.Prelude.{ℕ, List, Result, Ok, Err}
use Rattle.meaning.specs.Reading.{Got, got, wrong}
use Rattle.meaning.specs.Number.{Written, Entry}
use Rattle.reply.specs.declared.Fault.{Fault}
use Rattle.reply.specs.declared.Wrong.{Wrong}
use Rattle.reply.specs.Faults.{wrong_of}
use Rattle.text.specs.declared.Taken.{Taken}
use Rattle.text.specs.Pieces.{as_taken}
use Rattle.marks.specs.Codes.{coded}

-- a number: its place
abbrev pub as_number : List ℕ → Got Written → Result (Taken ℕ) Fault
as_number = as_taken (λ w. w.at)

-- an entry: its value
abbrev pub as_entry : List ℕ → Got Entry → Result (Taken ℕ) Fault
as_entry = as_taken (λ e. coded e.value)

-- the last line, read as line 0
abbrev pub as_end : Got (Unit {0}) → Result (Unit {0}) Wrong
as_end (got u l t) = Ok tt
as_end (wrong n l) = Err (wrong_of n l)
