-- A section, whatever its rows are: where it stands, what the answer on its next row tells, and on to the next line.
use Prim.Native.Nat.{ℕ, suc, ◌+◌, ◌-◌, ◌<◌, ◌≤◌}
use mathlib.Core.Path.{◌≡◌, refl, sym, ◌∙◌, ap}
use mathlib.Core.Bool.{Bool, true, false}
use mathlib.Core.List.{List, [], ◌∷◌, ◌++◌}
use native.Mathlib.Nat.{sub-eq-zero_of_le}
use native.Mathlib.Omega.{arith}
use borrow.Author.Tests.{leb-true, leb-false}
use lib.Dec.{leb}
use lib.ListN.{length, drop, length-drop}
use lib.Seq.{drop-drop}
use Rattle.std.specs.Prelude.{Result, Ok, Err, Option, Some, None}
use Rattle.meaning.specs.Text.{begins}
use Rattle.meaning.specs.Refusal.{FULL}
use Rattle.meaning.specs.Reading.{Got, got, wrong, Reader, after, give}
use Rattle.meaning.specs.Name.{Name}
use Rattle.meaning.specs.Sheet as M
use Rattle.meaning.specs.Sheet.{all_names}
use Rattle.meaning.specs.ReadSheet.{section}
use Rattle.theory.specs.Reading.Answered.{Ends, Left, left_at, left_got, left_wrong}
use Rattle.theory.specs.Reading.Built.{Built}
use Rattle.theory.specs.Reading.Faults.{Faulty, built_faulty}
use Rattle.theory.specs.Reading.Piece.{piece_took, piece_refuses}
use Rattle.theory.specs.Reading.Sections.{section_over, section_full, section_begun}
use Rattle.reply.specs.declared.Fault.{Fault}
use Rattle.reply.specs.declared.Wrong.{Wrong}
use Rattle.reply.specs.Faults.{fault_of, wrong_again}
use Rattle.reply.proofs.Faults.{number_again}
use Rattle.text.specs.declared.Taken.{Taken}
use Rattle.text.specs.Pieces.{as_taken}
use Rattle.text.proofs.Callers.{begins_fits}
use Rattle.limits.specs.Sizes.{name_room}
use Rattle.name.specs.declared.Name.{Name as Kept}
use Rattle.name.specs.Names.{kept, name_of, put_in, Again}
use Rattle.name.proofs.Tables.{again_more}
use Rattle.sheet_tables.specs.Heads.{as_heads, heads_of}
use Rattle.sheet_tables.proofs.Tables.{heads_again}
use Rattle.sheet_section.specs.declared.Above.{Above}
use Rattle.sheet_section.specs.Answers.{as_above_by, as_above, as_told, keyed, as_row, so_far_by, so_far}
use Rattle.sheet_section.specs.Held.{Plain, Reached}
use Rattle.sheet_section.proofs.Rows.{Few, few_rows, plain_well, names_stored}

-- ANSWERS

-- the sheet that was read
pub read_got : {x : Got M.Heads} {s : List ℕ} {hd : M.Heads} (a : Above) → a.heads ≡ as_heads hd → Left x (give hd) a.line a.at s → Ok a ≡ as_above s x
read_got {s = s} a is left =
    let back : length s - (length s - a.at) ≡ a.at = omega (arith, left.within) in
    rw (left.is, ← is, length-drop a.at s, back)

-- a refusal of what was read before is handed on
pub read_handed : (s : List ℕ) (before : Result Above Wrong) (f : M.Heads → Reader M.Heads) (w : Wrong) → before ≡ Err w
    → Err w ≡ as_above s (after (so_far s before) f)
read_handed s before f w e = rw e (ap (λ (w : Wrong). Err w) (sym (wrong_again w)))

-- whatever a refusal is told by: the answer r of a section behind what was read before
pub read_told : {W : Type 0} {f : M.Heads → Reader M.Heads} (built : (hd : M.Heads) → Built (f hd)) (of : ℕ → ℕ → W) (number line : W → ℕ) (s : List ℕ)
    (before : Result Above W) (a : Above) → before ≡ Ok a → (r : Result Above Wrong) → r ≡ as_above s (f (heads_of a.heads) a.line (drop a.at s))
    → (v : Result Above W) → v ≡ as_told of r → v ≡ as_above_by of s (after (so_far_by number line s before) f)
read_told {f = f} built of number line s before a is r e v z =
    rw (is, z, e) (go (f (heads_of a.heads) a.line (drop a.at s)) (built_faulty (built (heads_of a.heads)) a.line (drop a.at s)))
  where
    go : (x : Got M.Heads) → Faulty x → as_told of (as_above s x) ≡ as_above_by of s x
    go (got hd l t) h = refl
    go (wrong n l) h = rw (number_again n (omega (arith, h)) (omega (arith, h)))

-- WHERE A SECTION STANDS

-- with the rows so far the tables are those of a sheet, and of what is read in all the section is left, with room for so many rows
module _ (key : List ℕ) (row : M.Heads → Reader M.Heads) (limit : ℕ) (size : M.Heads → ℕ) (Q : M.Heads → Type 0) where
  pub record Going (s : List ℕ) (x : Got M.Heads) (a : Above) : Type 0 where
    pub sheet : M.Heads
    pub late : Q sheet
    pub is : a.heads ≡ as_heads sheet
    pub plain : Plain sheet
    pub counts : Few a.heads
    pub lines : a.line ≤ a.at
    pub left : Left x (section key row (limit - size sheet) sheet) a.line a.at s

-- no rows yet
module _ {key : List ℕ} {row : M.Heads → Reader M.Heads} {limit : ℕ} {size : M.Heads → ℕ} {P Q : M.Heads → Type 0} {s : List ℕ} (f : M.Heads → Reader M.Heads)
    (a : Above) (late : (hd : M.Heads) → P hd → Q hd)
    (same : (hd : M.Heads) → P hd → (l : ℕ) (t : List ℕ) → f hd l t ≡ section key row (limit - size hd) hd l t) where
  pub going_at : Reached P s a → Going key row limit size Q s (f (heads_of a.heads) a.line (drop a.at s)) a
  going_at c =
      let plain = plain_well c.sheet c.well in
      let again : heads_of a.heads ≡ c.sheet = ap heads_of c.heads ∙ heads_again c.sheet c.well in
      record {
        sheet = c.sheet;
        late = late c.sheet c.late;
        is = c.heads;
        plain = plain;
        counts = few_rows a.heads c.heads plain;
        lines = c.lines;
        left = record { within = c.within; is = rw (again, same c.sheet c.late a.line (drop a.at s)) };
      }

module _ {key : List ℕ} {row : M.Heads → Reader M.Heads} {limit : ℕ} {size : M.Heads → ℕ} {Q : M.Heads → Type 0} {s : List ℕ} {x : Got M.Heads} {a : Above}
    (i : Going key row limit size Q s x a) where
  -- what is left behind a further row
  abbrev pub next : M.Heads → Reader M.Heads
  next = section key row (limit - size i.sheet - 1)

  -- THE NEXT ROW, of which r reads what stands behind the key; f is what the code has for it
  module _ {A B : Type 0} (f : A → B) (P : A → ℕ → Type 0) (put : A → M.Heads) where
    -- a further row was read, and the sheet is read on
    pub record Row (b : Taken B) : Type 0 where
      pub value : A
      pub bytes : ℕ
      pub holds : P value bytes
      pub room : size i.sheet < limit
      pub same : b ≡ record { value = f value; bytes = length key + bytes }
      pub left : Left x (next (put value)) (suc a.line) (a.at + b.bytes) s

    -- what the answer on a row tells
    abbrev pub RowTold : Result (Option (Taken B)) Fault → Type 0
    RowTold (Ok None) = Ok a ≡ as_above s x
    RowTold (Ok (Some b)) = Row b
    RowTold (Err e) = Err (record { fault = e; line = a.line }) ≡ as_above s x

    module _ {r : Reader A} (ends : (u : List ℕ) → Ends suc P r u)
        (rows : (g : M.Heads → Reader M.Heads) (l : ℕ) (t : List ℕ) → after (row i.sheet l t) g ≡ after (r l t) (λ v. g (put v)))
        (most count : ℕ) (same : most - count ≡ limit - size i.sheet) where
      abbrev u : List ℕ
      u = drop (a.at + length key) s

      begun : begins key (drop a.at s) ≡ true → size i.sheet < limit → Left x (λ l t. after (r l t) (λ v. next (put v))) a.line (a.at + length key) s
      begun here room =
          record {
            within = omega (arith, i.left.within, begins_fits key (drop a.at s) here, length-drop a.at s);
            is = i.left.is
                ∙ rw (section_begun key row i.sheet a.line (drop a.at s) here (limit - size i.sheet) (omega arith), rows, drop-drop (length key) a.at s);
          }

      pub going_row : (v : List ℕ) (o : Result (Option (Taken B)) Fault) → v ≡ drop a.at s → o ≡ as_row f key (leb most count) r v → RowTold o
      going_row v o from q = rw (q, from, drop-drop (length key) a.at s) (go (begins key (drop a.at s)) refl (leb most count) refl _ refl)
        where
          go : (b : Bool) → begins key (drop a.at s) ≡ b → (c : Bool) → leb most count ≡ c → (p : Result (Taken B) Fault) → p ≡ as_taken f u (r 0 u)
              → RowTold (keyed b c (length key) p)
          go false e c z p read =
              read_got a i.is record {
                within =
                    i.left.within;
                is = i.left.is ∙ section_over key row i.sheet a.line (drop a.at s) (limit - size i.sheet) e;
              }
          go true e true z p read =
              let m = sym same ∙ sub-eq-zero_of_le (leb-true most count z) in
              let full : x ≡ wrong FULL a.line = i.left.is ∙ rw (m, section_full key row i.sheet a.line (drop a.at s) e) in
              rw full
          go true e false z (Err d) read =
              let h = piece_refuses (λ v n. record { value = f v; bytes = n }) fault_of (ends u) (Err d) read d refl in
              let room : size i.sheet < limit = omega (arith, leb-false most count z) in
              rw (left_wrong r (λ v. next (put v)) (begun e room) h.number (h.reads a.line))
              (ap (λ (d : Fault). Err (record { fault = d; line = a.line })) h.is)
          go true e false z (Ok b) read =
              let h = piece_took (λ v n. record { value = f v; bytes = n }) fault_of (ends u) (Ok b) read b refl in
              let room : size i.sheet < limit = omega (arith, leb-false most count z) in
              let left = left_got r (λ v. next (put v)) (begun e room) h.value (suc a.line) h.bytes h.within (h.reads a.line) in
              let sum : a.at + (length key + b.bytes) ≡ a.at + length key + h.bytes = omega (arith, ap (λ (c : Taken B). c.bytes) h.same) in
              record {
                value = h.value;
                bytes = h.bytes;
                holds = h.holds;
                room = room;
                same = ap (λ (c : Taken B). record { value = c.value; bytes = length key + c.bytes }) h.same;
                left = left_at left (a.at + (length key + b.bytes)) sum;
              }

  -- on to the next line: the row is put into the tables, its name behind the n before it
  pub going_more : (n : ℕ) (w : Kept) (name : Name) → n ≡ length (all_names i.sheet) → n < name_room → w ≡ kept name → name_of (kept name) ≡ name
      → size i.sheet < limit → (more : M.Heads) → Q more → size more ≡ size i.sheet + 1 → all_names more ≡ all_names i.sheet ++ (name ∷ [])
      → (b : Above) → b.line ≡ a.line + 1 → b.line ≤ b.at → Left x (next more) (suc a.line) b.at s
      → (put_in a.heads.names n w ≡ (as_heads more).names → b.heads ≡ as_heads more) → (Again (all_names more) → Plain more)
      → Going key row limit size Q s x b
  going_more n w name count small number again room more late one names b line far left stored plain =
      let is = stored (names_stored a.heads i.sheet i.is more name names (omega (arith, count)) n w count number) in
      let good = plain (rw names (again_more (all_names i.sheet) name i.plain.names again)) in
      let m : limit - size more ≡ limit - size i.sheet - 1 = omega arith in
      let j : b.line ≡ suc a.line = omega arith in
      record { sheet = more; late = late; is = is; plain = good; counts = few_rows b.heads is good; lines = far; left = rw (m, j) left }
