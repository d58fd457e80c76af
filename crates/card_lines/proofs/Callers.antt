-- For callers: what the pieces and lines tell of a text, at every line, and what an answer of this crate tells of them.
use Prim.Native.Nat.{ℕ, suc, ◌+◌, ◌≤◌}
use mathlib.Core.Path.{◌≡◌, ap}
use mathlib.Core.List.{List, ◌++◌}
use native.Mathlib.Omega.{arith}
use lib.ListN.{length, drop, length-append}
use Rattle.std.specs.Prelude.{Result, Ok, Err}
use Rattle.meaning.specs.Text.{text}
use Rattle.meaning.specs.Refusal.{LINE}
use Rattle.meaning.specs.Reading.{Got, got, wrong, Reader, after, due}
use Rattle.meaning.specs.Name.{Name, due_name}
use Rattle.meaning.specs.Number.{Entry}
use Rattle.meaning.specs.Card.{keyed, field_entry, status_mark, ended, case_line, spaced}
use Rattle.theory.specs.Reading.Built.{Built, line_fault, due_built, due_name_built}
use Rattle.theory.specs.Reading.BuiltPapers.{entry_line_built, mark_line_built}
use Rattle.theory.specs.Reading.Spelling.{due_spells, due_name_spells}
use Rattle.theory.specs.Writing.CardText.{field_spells}
use Rattle.theory.specs.Reading.Answered.{Ends, here, inline_ends, spelled_ends, ends_weaker, ends_after, ended_ends, Left}
use Rattle.theory.specs.Reading.Piece.{Took, Refuses, piece_took, piece_refuses, Off, piece_on, piece_off}
use Rattle.reply.specs.declared.Fault.{Fault}
use Rattle.reply.specs.Faults.{number_of, fault_of}
use Rattle.text.specs.declared.Taken.{Taken}
use Rattle.text.specs.Pieces.{as_length}
use Rattle.text.proofs.Callers.{refused_number}
use Rattle.marks.specs.Codes.{mark_code, coded}
use Rattle.card_lines.specs.declared.Shown.{Shown}
use Rattle.card_lines.specs.Answers.{as_value, as_mark}

-- PIECES OF KNOWN TEXT

pub due_ends : (w t : List ℕ) → Ends here (λ u n. n ≡ length w) (due LINE w) t
due_ends w = spelled_ends (due_built w line_fault) (due_spells LINE w)

pub name_ends : (d : Name) (t : List ℕ) → Ends here (λ u n. n ≡ length d) (due_name d) t
name_ends d = spelled_ends (due_name_built d) (due_name_spells d)

pub keyed_ends : (d : Name) (t : List ℕ) → Ends here (λ u n. n ≡ length d + 1) (keyed d) t
unfolding keyed
keyed_ends d t = ends_after _ _ (name_ends d t) λ u n h. ends_weaker (λ u i e. omega arith) (due_ends (text "=") (drop n t))

pub case_ends : (d : Name) (t : List ℕ) → Ends suc (λ u n. n ≡ length d + 6) (case_line d) t
unfolding case_line
case_ends d t = ends_after _ _ (due_ends (text "case=") t) λ u n h. ended_ends _ (name_ends d (drop n t)) λ u i e. omega arith

-- by the answer p of the code on the rest u: the piece is read up to the place m, or refused
module _ {C : Type 0} {to : ℕ → ℕ} {P : Unit {0} → ℕ → Type 0} {r : Reader (Unit {0})} (ends : (u : List ℕ) → Ends to P r u) {x : Got C}
    (f : Unit {0} → Reader C) {l at : ℕ} {s : List ℕ}
    (left : Left x (λ l s. after (r l s) f) l at s) (u : List ℕ) (rest : u ≡ drop at s) (p : Result ℕ Fault) (is : p ≡ as_length u (r 0 u)) where
  pub bytes_on : (n m : ℕ) → p ≡ Ok n → m ≡ at + n → P tt n × Left x (f tt) (to l) m s
  bytes_on n m e z = let o = piece_on (λ a n. n) fault_of ends f left u rest p is n e in (rw o.same o.holds, rw (z, o.same) o.left)

  pub bytes_off : (e : Fault) → p ≡ Err e → Off fault_of x l e
  bytes_off = piece_off (λ a n. n) fault_of ends f left u rest p is

-- MARKS
pub status_ends : (d : Name) (t : List ℕ) → Ends suc (λ b n. Unit {0}) (ended (status_mark d)) t
status_ends d t = ended_ends _ (inline_ends (mark_line_built d) t) λ b n h. tt

module _ (d : Name) (t : List ℕ) (p : Result (Taken ℕ) Fault) (is : p ≡ as_mark t (ended (status_mark d) 0 t)) where
  pub mark_took : (v : Taken ℕ) → p ≡ Ok v → Took (λ b n. record { value = mark_code b; bytes = n }) suc (λ b n. Unit {0}) (ended (status_mark d)) t v
  mark_took = piece_took _ fault_of (status_ends d t) p is

  pub mark_refuses : (e : Fault) → p ≡ Err e → Refuses fault_of (ended (status_mark d)) t e
  mark_refuses = piece_refuses (λ b n. record { value = mark_code b; bytes = n }) fault_of (status_ends d t) p is

-- VALUES: the text of one stands behind b bytes, and o more follow
abbrev pub Behind : ℕ → ℕ → Entry → ℕ → Type 0
Behind b o e n = n ≡ b + length e.shown + o

pub field_ends : (d : Name) (t : List ℕ) → Ends here (Behind (length d + 1) 0) (field_entry d) t
field_ends d t =
    ends_weaker (λ e n h. omega (arith, length-append (d ++ text "=") e.shown, length-append d (text "=")))
    (spelled_ends (entry_line_built d) (field_spells d) t)

pub spaced_ends : (d : Name) (t : List ℕ) → Ends here (Behind (length d + 2) 0) (spaced d) t
unfolding spaced
spaced_ends d t = ends_after _ _ (due_ends (text " ") t) λ u n h. ends_weaker (λ e i g. omega arith) (field_ends d (drop n t))

pub field_line_ends : (d : Name) (t : List ℕ) → Ends suc (Behind (length d + 1) 1) (ended (field_entry d)) t
field_line_ends d t = ended_ends _ (field_ends d t) λ e n h. omega arith

-- an entry as it is told where it stands behind b bytes
abbrev pub told : ℕ → Entry → ℕ → Shown
told b e n = record { value = coded e.value; start = b; length = length e.shown }

-- the entry that is told, of which w bytes were read
pub record Valued (to : ℕ → ℕ) (b : ℕ) (r : Reader Entry) (t : List ℕ) (v : Shown) (w : ℕ) : Type 0 where
  pub entry : Entry
  pub value : v.value ≡ coded entry.value
  pub place : v.start ≡ b
  pub size : v.length ≡ length entry.shown
  pub within : w ≤ length t
  pub is : (l : ℕ) → r l t ≡ got entry (to l) (drop w t)

module _ {to : ℕ → ℕ} (b o : ℕ) {r : Reader Entry} {t : List ℕ} (ends : Ends to (Behind b o) r t) (p : Result Shown Fault) (is : p ≡ as_value b t (r 0 t)) where
  pub value_took : (v : Shown) (w : ℕ) → p ≡ Ok v → w ≡ v.start + v.length + o → Valued to b r t v w
  value_took v w e z =
      let q = piece_took (told b) fault_of ends p is v e in
      let place : v.start ≡ b = ap (λ v. v.start) q.same in
      let size : v.length ≡ length q.value.shown = ap (λ v. v.length) q.same in
      let all : w ≡ q.bytes = omega (arith, q.holds) in
      record { entry = q.value; value = ap (λ v. v.value) q.same; place = place; size = size; within = rw all q.within; is = rw all q.reads }

  pub value_refuses : (e : Fault) → p ≡ Err e → Refuses fault_of r t e
  value_refuses = piece_refuses (told b) fault_of ends p is

  -- of a reader that is built from the pieces: by the fault's number, on every line
  pub value_kept : Built r → (e : Fault) → p ≡ Err e → (l : ℕ) → r l t ≡ wrong (number_of e) l
  value_kept built e z = refused_number built (value_refuses e z)
