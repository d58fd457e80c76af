-- A row piece by piece: what the answer on its key and name tells, and the answer on the row, by what is read behind the name.
use Prim.Native.Nat.{ℕ, ◌+◌, ◌-◌, ◌≤◌}
use mathlib.Core.Path.{◌≡◌, refl}
use mathlib.Core.Bool.{Bool, true, false}
use mathlib.Core.List.{List}
use native.Mathlib.Omega.{arith}
use lib.ListN.{length, take, drop, length-drop}
use Rattle.std.specs.Prelude.{Result, Ok, Err, Option, Some, None}
use Rattle.meaning.specs.Text.{begins}
use Rattle.meaning.specs.Reading.{Got, Reader, after, give}
use Rattle.meaning.specs.Name.{Name, new_name}
use Rattle.theory.specs.Reading.Answered.{Left, left_got}
use Rattle.theory.specs.Reading.Piece.{Off}
use Rattle.reply.specs.declared.Fault.{Fault}
use Rattle.reply.specs.Faults.{fault_of}
use Rattle.text.specs.declared.Taken.{Taken}
use Rattle.text.proofs.Callers.{begins_fits}
use Rattle.name.specs.declared.Name.{Name as Kept}
use Rattle.name.specs.Names.{kept, name_of}
use Rattle.name.specs.Answers.{as_name}
use Rattle.name.proofs.Callers.{new_name_wrong, new_name_got, new_name_number, new_name_again, new_name_fits}
use Rattle.sheet_section.specs.Answers.{keyed, as_row, row_name}

-- a new name, and what is read behind it
abbrev pub named : {A : Type 0} → List Name → (Name → Reader A) → Reader A
named used k = λ l t. after (new_name used l t) k

module _ {A B : Type 0} (f : A → B) (key : List ℕ) (full : Bool) (used : List Name) (k : Name → Reader A) (t : List ℕ) where
  -- the answer on the row, and what is read behind its key
  abbrev pub answer : Result (Option (Taken B)) Fault
  answer = as_row f key full (named used k) t

  abbrev pub whole : Got A
  whole = named used k 0 (drop (length key) t)

  abbrev u : List ℕ
  u = drop (length key) t

  -- a row stands, with the name that is kept
  pub record Named (w : Taken Kept) : Type 0 where
    pub here : begins key t ≡ true
    pub room : full ≡ false
    pub name : Name
    pub same : w.value ≡ kept name
    pub again : name_of (kept name) ≡ name
    pub far : length key ≤ w.bytes
    pub left : Left whole (k name) 0 w.bytes t

  abbrev pub NameTold : Result (Option (Taken Kept)) Fault → Type 0
  NameTold (Ok None) = Ok None ≡ answer
  NameTold (Ok (Some w)) = Named w
  NameTold (Err e) = Err e ≡ answer

  pub name_told : (o : Result (Option (Taken Kept)) Fault) → o ≡ row_name key full used t → NameTold o
  name_told o is = rw is (go (begins key t) refl full refl _ refl)
    where
      go : (b : Bool) → begins key t ≡ b → (c : Bool) → full ≡ c → (p : Result (Taken Kept) Fault) → p ≡ as_name u (new_name used 0 u)
          → NameTold (keyed b c (length key) p)
      go false e c z p read = rw e
      go true e true z p read = rw (e, z)
      go true e false z (Err d) read = let h = new_name_wrong (Err d) used u read d refl in rw (e, z, h.is, h.reads 0)
      go true e false z (Ok v) read =
          let start : Left whole (named used k) 0 (length key) t = record { within = begins_fits key t e; is = refl } in
          record {
            here = e;
            room = z;
            name = take v.bytes u;
            same = new_name_number (Ok v) used u read v refl;
            again = new_name_again (Ok v) used u read v refl;
            far = omega arith;
            left = left_got (new_name used) k start _ 0 v.bytes (new_name_fits (Ok v) used u read v refl) (new_name_got (Ok v) used u read v refl 0);
          }

  module _ {w : Taken Kept} (n : Named w) where
    -- what is left of it is refused, or read
    pub line_off : {l : ℕ} (e : Fault) → Off fault_of whole l e → Err e ≡ answer
    line_off e h = rw (n.here, n.room, h.is, h.told)

    pub line_on : {a : A} {l m : ℕ} → Left whole (give a) l m t → length key ≤ m → (b : Taken B) → b ≡ record { value = f a; bytes = m } → Ok (Some b) ≡ answer
    line_on {m = m} left far b z =
        let sum : length key + (length t - length key - (length t - m)) ≡ m = omega (arith, left.within) in
        rw (n.here, n.room, left.is, z, length-drop (length key) t, length-drop m t, sum)
