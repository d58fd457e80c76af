-- The faults by the numbers of the document.
use Rattle.std.specs.Prelude.{ℕ, cond, eqb, ◌≡◌, refl}
use Rattle.std.proofs.Common.{ap}
use Rattle.meaning.specs.Refusal.{LONG, LINE, NAME, NUMBER, COND, FULL, CYCLE, ORPHAN, ROOM, MANY}
use Rattle.reply.specs.declared.Fault.{Fault}
use Rattle.reply.specs.declared.Fault.TheVariants as F
use Rattle.reply.specs.declared.Wrong.{Wrong}
use Rattle.reply.specs.declared.Numbered.{Numbered}

-- a fault's number
abbrev pub number_of : Fault → ℕ
number_of F.Long = LONG
number_of F.Line = LINE
number_of F.Name = NAME
number_of F.Number = NUMBER
number_of F.Cond = COND
number_of F.Full = FULL
number_of F.Cycle = CYCLE
number_of F.Orphan = ORPHAN
number_of F.Room = ROOM
number_of F.Many = MANY

-- the fault with a number; of another number nothing is asked
abbrev pub fault_of : ℕ → Fault
fault_of n =
    cond (eqb n LONG) F.Long (cond (eqb n LINE) F.Line (cond (eqb n NAME) F.Name (cond (eqb n NUMBER) F.Number (cond (eqb n COND) F.Cond
    (cond (eqb n FULL) F.Full (cond (eqb n CYCLE) F.Cycle (cond (eqb n ORPHAN) F.Orphan (cond (eqb n ROOM) F.Room F.Many))))))))

-- the refusal of a paper: its fault by the number, and its line
abbrev pub wrong_of : ℕ → ℕ → Wrong
wrong_of n l = record { fault = fault_of n; line = l }

-- a refusal that its number alone tells, which may be any
abbrev pub numbered : ℕ → ℕ → Numbered
numbered n l = record { number = n; line = l }

-- a fault is told again by its number
pub fault_again : (f : Fault) → fault_of (number_of f) ≡ f
fault_again F.Long = refl
fault_again F.Line = refl
fault_again F.Name = refl
fault_again F.Number = refl
fault_again F.Cond = refl
fault_again F.Full = refl
fault_again F.Cycle = refl
fault_again F.Orphan = refl
fault_again F.Room = refl
fault_again F.Many = refl

pub wrong_again : (w : Wrong) → wrong_of (number_of w.fault) w.line ≡ w
wrong_again w = ap (λ (f : Fault). record { fault = f; line = w.line }) (fault_again w.fault)
