-- What the code answers for what the meaning reads above the rules.
use Rattle.std.specs.Prelude.{ℕ, zero, suc, ◌+◌, Bool, true, false, List, length, drop, Result, Ok, Err, Option, Some, None}
use Rattle.meaning.specs.Text.{begins}
use Rattle.meaning.specs.Reading.{Got, got, wrong, Reader}
use Rattle.meaning.specs.Name.{Name, new_name}
use Rattle.meaning.specs.Sheet as M
use Rattle.theory.specs.Reading.Piece.{as_lines}
use Rattle.reply.specs.declared.Fault.{Fault}
use Rattle.reply.specs.declared.Fault.TheVariants as F
use Rattle.reply.specs.declared.Wrong.{Wrong}
use Rattle.reply.specs.declared.Numbered.{Numbered}
use Rattle.reply.specs.Faults.{number_of, wrong_of, numbered}
use Rattle.text.specs.declared.Taken.{Taken}
use Rattle.text.specs.Pieces.{as_taken}
use Rattle.name.specs.declared.Name.{Name as Kept}
use Rattle.name.specs.Names.{kept}
use Rattle.sheet_tables.specs.declared.Heads.{Heads}
use Rattle.sheet_tables.specs.Heads.{as_heads, heads_of}
use Rattle.sheet_section.specs.declared.Above.{Above}

-- the tables, the line come to and the place; or what the refusal is told by
abbrev pub as_above_by : {W : Type 0} → (ℕ → ℕ → W) → List ℕ → Got M.Heads → Result Above W
as_above_by = as_lines (λ hd l at. record { line = l; at = at; heads = as_heads hd })

-- the same, with the fault and its line
abbrev pub as_above : List ℕ → Got M.Heads → Result Above Wrong
as_above = as_above_by wrong_of

-- a refusal has its number and line, and nothing else
abbrev pub refusal : ℕ → ℕ → Result Above Numbered
refusal n l = Err (numbered n l)

-- what was read, with a refusal as it is told
abbrev pub as_told : {W : Type 0} → (ℕ → ℕ → W) → Result Above Wrong → Result Above W
as_told of (Ok a) = Ok a
as_told of (Err w) = Err (of (number_of w.fault) w.line)

-- the next row of a section, by whether its key of j bytes stands there, whether there is no room, and how what is read behind the key is answered
abbrev pub keyed : {B : Type 0} → Bool → Bool → ℕ → Result (Taken B) Fault → Result (Option (Taken B)) Fault
keyed false full j p = Ok None
keyed true true j p = Err F.Full
keyed true false j (Ok v) = Ok (Some (record { value = v.value; bytes = j + v.bytes }))
keyed true false j (Err e) = Err e

-- whether its key stands at the start of t, and behind it what r reads
abbrev pub as_row : {A B : Type 0} → (A → B) → List ℕ → Bool → Reader A → List ℕ → Result (Option (Taken B)) Fault
as_row f key full r t = keyed (begins key t) full (length key) (as_taken f (drop (length key) t) (r 0 (drop (length key) t)))

-- its key, and behind it a name that is not used yet
abbrev pub row_name : List ℕ → Bool → List Name → List ℕ → Result (Option (Taken Kept)) Fault
row_name key full used = as_row kept key full (new_name used)

-- the number with which a section is left
abbrev pub left_with : {R : Type 0} → (R → ℕ) → Result (Option (Taken Kept)) R → ℕ
left_with number (Ok o) = 0
left_with number (Err e) = number e

-- the tables, or the refusal with which a section is left
abbrev pub told : ℕ → ℕ → ℕ → Heads → Result Above Numbered
told zero l at h = Ok (record { line = l; at = at; heads = h })
told (suc n) l at h = refusal (suc n) l

-- what was read so far, as an answer tells it: the sheet for which the tables stand, with the line and the place come to; or the refusal
abbrev pub so_far_by : {W : Type 0} → (W → ℕ) → (W → ℕ) → List ℕ → Result Above W → Got M.Heads
so_far_by number line s (Ok a) = got (heads_of a.heads) a.line (drop a.at s)
so_far_by number line s (Err w) = wrong (number w) (line w)

-- the same, of a fault and its line
abbrev pub so_far : List ℕ → Result Above Wrong → Got M.Heads
so_far = so_far_by (λ w. number_of w.fault) (λ w. w.line)
