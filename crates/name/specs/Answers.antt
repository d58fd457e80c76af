-- What the code answers for what the meaning reads: one function for each type of answer.
use Rattle.std.specs.Prelude.{ℕ, suc, Bool, true, false, List, [], ◌∷◌, eqb, Result, Ok, Err, Option, Some, None}
use Rattle.std.proofs.Math.Option.{none, some}
use Rattle.std.proofs.Math.Option.{Option as Maybe}
use Rattle.meaning.specs.Reading.{Got}
use Rattle.meaning.specs.Name.{Name}
use Rattle.reply.specs.declared.Fault.{Fault}
use Rattle.text.specs.declared.Taken.{Taken}
use Rattle.text.specs.Pieces.{as_taken}
use Rattle.name.specs.Names.{kept}
use Rattle.name.specs.declared.Name.{Name as Kept}

-- a name as it is kept
abbrev pub as_name : List ℕ → Got Name → Result (Taken Kept) Fault
as_name = as_taken kept

-- a place in a table
abbrev pub as_known : List ℕ → Got ℕ → Result (Taken ℕ) Fault
as_known = as_taken (λ i. i)

-- the number of a refused name, and of one that is not known, by what numbers what a refusal is told by
abbrev pub name_fault : {R : Type 0} → (R → ℕ) → Result (Taken Kept) R → ℕ
name_fault number (Ok v) = 0
name_fault number (Err e) = number e

abbrev pub known_fault : {R : Type 0} → (R → ℕ) → Result (Taken ℕ) R → ℕ
known_fault number (Ok v) = 0
known_fault number (Err e) = number e

-- what was found, as a place
abbrev pub place_of : Option ℕ → Maybe ℕ
place_of (Some i) = some i
place_of None = none

-- one place further on
abbrev pub further : Option ℕ → Option ℕ
further (Some i) = Some (suc i)
further None = None

-- the first place of what passes a test
unfoldable pub found_by : {A : Type 0} → (A → Bool) → List A → Option ℕ
found_by p [] = None
found_by p (x ∷ xs) = elim (p x) [ true ↦ Some 0 | false ↦ further (found_by p xs) ]

-- two kept names are the same
unfoldable pub same_kept : Kept → Kept → Bool
same_kept w k = eqb k.word w.word

-- the first place of a kept name
abbrev pub found_in : Kept → List Kept → Option ℕ
found_in w ks = found_by (same_kept w) ks
