-- What the code answers for what the meaning reads: one function for each type of answer.
use Rattle.std.specs.Prelude.{ℕ, Bool, List, length, Result, Ok, Err}
use Rattle.meaning.specs.Reading.{Got}
use Rattle.meaning.specs.Number.{Entry}
use Rattle.theory.specs.Reading.Piece.{as_piece}
use Rattle.reply.specs.declared.Fault.{Fault}
use Rattle.reply.specs.declared.Wrong.{Wrong}
use Rattle.reply.specs.Faults.{fault_of}
use Rattle.text.specs.declared.Taken.{Taken}
use Rattle.text.specs.Pieces.{as_taken}
use Rattle.marks.specs.Codes.{mark_code, coded}
use Rattle.card_lines.specs.declared.Shown.{Shown}

-- the number of a refusal, by what numbers what it is told by
abbrev pub bytes_fault : {R : Type 0} → (R → ℕ) → Result ℕ R → ℕ
bytes_fault number (Ok n) = 0
bytes_fault number (Err e) = number e

-- a value that stands behind so many bytes, and the length of its text
abbrev pub as_value : ℕ → List ℕ → Got Entry → Result Shown Fault
as_value p = as_piece (λ e n. record { value = coded e.value; start = p; length = length e.shown }) fault_of

-- the mark of a status, and the bytes that it took
abbrev pub as_mark : List ℕ → Got Bool → Result (Taken ℕ) Fault
as_mark = as_taken mark_code

-- what a piece says, whose fault is one of this line
abbrev pub on_line : {A : Type 0} → Result A Fault → ℕ → Result A Wrong
on_line (Ok a) l = Ok a
on_line (Err e) l = Err (record { fault = e; line = l })
