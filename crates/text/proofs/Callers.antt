-- What a caller may conclude from the answers of this crate: whether a text stands, and what is read where one is due.
use Prim.Native.Nat.{ℕ}
use mathlib.Core.Path.{◌≡◌, ap, sym, ◌∙◌, subst}
use mathlib.Core.List.{List}
use native.Mathlib.Omega.{arith}
use Rattle.meaning.specs.Reading.{Got, Reader, wrong}
use Rattle.theory.specs.Reading.Built.{Built}
use Rattle.theory.specs.Reading.Faults.{Faulty, built_faulty}
use Rattle.theory.specs.Reading.Piece.{Refuses, Off}
use Rattle.reply.specs.declared.Fault.{Fault}
use Rattle.reply.specs.Faults.{number_of, fault_of}
use Rattle.reply.proofs.Faults.{number_again}
pub use Rattle.theory.specs.Reading.Told.{begins_fits}
pub use Rattle.theory.specs.Reading.Fixed.{stands_here, stands_not, due_ended, due_here, due_not, due_off, line_end_here, line_end_off}

-- what is refused has its fault's number, since a reader that is built from pieces refuses with a number of the document
pub off_number : {A : Type 0} {x : Got A} {l : ℕ} {e : Fault} → Faulty x → Off fault_of x l e → x ≡ wrong (number_of e) l
off_number {l = l} faulty o =
    let h = subst Faulty o.told faulty in
    o.told ∙ ap (λ n. wrong n l) (sym (ap number_of o.is ∙ number_again o.number (omega (arith, h.0)) (omega (arith, h.1))))

-- on every line
pub refused_number : {A : Type 0} {r : Reader A} {t : List ℕ} {e : Fault} → Built r → Refuses fault_of r t e → (l : ℕ) → r l t ≡ wrong (number_of e) l
refused_number {t = t} built q l = off_number (built_faulty built l t) (record { number = q.number; is = q.is; told = q.reads l })
