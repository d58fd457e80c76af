-- An event's line: its name, then the fields that it carries, and what its answer tells.
use Prim.Native.Nat.{ℕ, suc, ◌+◌, ◌≤◌}
use mathlib.Core.Path.{◌≡◌, ap, ap₂}
use mathlib.Core.Bool.{Bool}
use mathlib.Core.List.{List, []}
use native.Mathlib.Omega.{arith}
use lib.ListN.{length, drop}
use Rattle.std.specs.Prelude.{Result, Ok, Err, Option, Some, None}
use Rattle.meaning.specs.Text.{text}
use Rattle.meaning.specs.Reading.{Got, Reader, after, give}
use Rattle.meaning.specs.Name.{Name}
use Rattle.meaning.specs.Sheet as M
use Rattle.meaning.specs.ReadSheet.{carried}
use Rattle.theory.specs.Reading.Answered.{Ends, ends_after, ends_map}
use Rattle.theory.specs.Reading.Piece.{Next, piece_on, piece_off}
use Rattle.theory.specs.Reading.Shown.{shown_ends}
use Rattle.reply.specs.declared.Fault.{Fault}
use Rattle.reply.specs.Faults.{fault_of}
use Rattle.text.specs.declared.Taken.{Taken}
use Rattle.text.specs.Pieces.{as_taken}
use Rattle.name.specs.declared.Name.{Name as Kept}
use Rattle.name.specs.Names.{kept, name_of}
use Rattle.name.proofs.Callers.{new_shows, good_again}
use Rattle.sheet_section.specs.Answers.{as_row, row_name}
use Rattle.sheet_section.proofs.Named.{Named, NameTold, name_told, line_off, line_on}
use Rattle.sheet_events.specs.Answers.{event}
use Rattle.sheet_events.proofs.Pieces.{fields_ends}

-- behind the name
abbrev pub ending : List Name → ℕ → Name → Reader M.Event
ending fs most w = λ l t. after (carried fs (suc most) [] l t) (λ ns. give (record { name = w; carries = ns }))

module _ (fs : List Name) (most : ℕ) (used : List Name) (full : Bool) (t : List ℕ) where
  -- the answer on its line, and what is read behind its key
  abbrev pub told : Result (Option (Taken M.Event)) Fault
  told = as_row (λ (e : M.Event). e) (text "event=") full (event fs most used) t

  abbrev whole : Got M.Event
  whole = Rattle.sheet_section.proofs.Named.whole (λ (e : M.Event). e) (text "event=") full used (ending fs most) t

  module _ (o : Result (Option (Taken Kept)) Fault) (read : o ≡ row_name (text "event=") full used t) where
    on_name : NameTold (λ (e : M.Event). e) (text "event=") full used (ending fs most) t o
    on_name = name_told (λ (e : M.Event). e) (text "event=") full used (ending fs most) t o read

    pub name_wrong : (e : Fault) → o ≡ Err e → Err e ≡ told
    name_wrong e z = rw z at on_name

    pub name_none : (x : Option (Taken Kept)) → o ≡ Ok x → x ≡ None → Ok None ≡ told
    name_none x z y = rw (z, y) at on_name

    module _ (x : Option (Taken Kept)) (ok : o ≡ Ok x) (w : Taken Kept) (some : x ≡ Some w) where
      pub named : Named (λ (e : M.Event). e) (text "event=") full used (ending fs most) t w
      named = rw (ok, some) at on_name

      module _ (u : List ℕ) (p : Result (Taken (List ℕ)) Fault) (behind : u ≡ drop w.bytes t)
          (asked : p ≡ as_taken (λ (ns : List ℕ). ns) u (carried fs (suc most) [] 0 u)) where
        abbrev as_fields : List ℕ → ℕ → Taken (List ℕ)
        as_fields ns n = record { value = ns; bytes = n }

        abbrev made : List ℕ → Reader M.Event
        made ns = give (record { name = named.name; carries = ns })

        pub line_wrong : (e : Fault) → p ≡ Err e → Err e ≡ told
        line_wrong e z =
            line_off (λ (e : M.Event). e) (text "event=") full used (ending fs most) t named e
            (piece_off as_fields fault_of (fields_ends fs most) made named.left u behind p asked e z)

        module _ (k : Taken (List ℕ)) (z : p ≡ Ok k) where
          taken : Next as_fields (λ ns n. length ns ≤ most) whole made 1 w.bytes t k
          taken = piece_on as_fields fault_of (fields_ends fs most) made named.left u behind p asked k z

          sum : w.bytes + k.bytes ≡ w.bytes + taken.bytes
          sum = omega (arith, ap (λ (k : Taken (List ℕ)). k.bytes) taken.same)

          pub line_read : Ok (Some (record { value = record { name = named.name; carries = k.value }; bytes = w.bytes + k.bytes })) ≡ told
          line_read =
              line_on (λ (e : M.Event). e) (text "event=") full used (ending fs most) t named taken.left (omega (arith, named.far)) _
              (ap₂ (λ ns n. record { value = record { name = named.name; carries = ns }; bytes = n }) (ap (λ (k : Taken (List ℕ)). k.value) taken.same) sum)

-- WHAT ITS ANSWER TELLS
abbrev pub Known : ℕ → M.Event → ℕ → Type 0
Known most e n = (name_of (kept e.name) ≡ e.name) × (length e.carries ≤ most)

pub event_ends : (fs : List Name) (most : ℕ) (used : List Name) (u : List ℕ) → Ends suc (Known most) (event fs most used) u
event_ends fs most used u =
    ends_after (Known most) _ (shown_ends (new_shows used) u) λ w n h.
    ends_map {Q = Known most} (λ ns. record { name = w; carries = ns }) (λ ns k few. (good_again w h.0, few)) (fields_ends fs most (drop n u))
