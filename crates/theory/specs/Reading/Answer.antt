-- What code that reads answers for what the meaning reads, whatever the type of the answer is.
use Rattle.std.specs.Prelude.{ℕ, ◌-◌, List, length}
use Rattle.meaning.specs.Reading.{Got, got, wrong}

-- for a value and the bytes that it took at the start of s, and for a refusal
abbrev pub as_read : {A B : Type 0} → (A → ℕ → B) → (ℕ → B) → List ℕ → Got A → B
as_read good bad s (got a l t) = good a (length s - length t)
as_read good bad s (wrong n l) = bad n

-- the same where values have a text, all of which was taken: its length is told
abbrev pub as_shown : {A B : Type 0} → (A → List ℕ) → (A → ℕ → B) → (ℕ → B) → Got A → B
as_shown w good bad (got a l t) = good a (length (w a))
as_shown w good bad (wrong n l) = bad n
