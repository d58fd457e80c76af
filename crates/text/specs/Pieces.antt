-- What the code answers for what the meaning reads, as a Result.
use Rattle.std.specs.Prelude.{ℕ, cond, eqb, List, Result}
use Rattle.meaning.specs.Refusal.{LINE}
use Rattle.meaning.specs.Reading.{Got}
use Rattle.theory.specs.Reading.Piece.{as_piece}
use Rattle.reply.specs.declared.Fault.{Fault}
use Rattle.reply.specs.Faults.{fault_of}
use Rattle.text.specs.declared.Taken.{Taken}

-- a value, as the code has it, and the bytes that it took at the start of s; or the fault
abbrev pub as_taken : {A B : Type 0} → (A → B) → List ℕ → Got A → Result (Taken B) Fault
as_taken f = as_piece (λ a n. record { value = f a; bytes = n }) fault_of

-- a piece of known text: the bytes that it took; or what its number is told by
abbrev pub as_length_by : {A E : Type 0} → (ℕ → E) → List ℕ → Got A → Result ℕ E
as_length_by = as_piece (λ a n. n)

-- the same, with the fault
abbrev pub as_length : {A : Type 0} → List ℕ → Got A → Result ℕ Fault
as_length = as_length_by fault_of

-- the same, where the refusal LINE, which a text that ended has, is told as one thing and every other as another
abbrev pub as_due : {A E : Type 0} → E → E → List ℕ → Got A → Result ℕ E
as_due ended other = as_piece (λ a n. n) (λ n. cond (eqb n LINE) ended other)
