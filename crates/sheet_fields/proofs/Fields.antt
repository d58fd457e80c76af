-- The field lines: the returns of `field_line`, the way into their section, each way out, and on to the next line.
use Prim.Native.Nat.{ℕ, suc, ◌+◌, ◌-◌, ◌^◌, ◌<◌}
use mathlib.Core.Path.{◌≡◌, ◌∙◌, ap, ap₂}
use mathlib.Core.Bool.{Bool}
use mathlib.Core.List.{List, [], ◌∷◌, ◌++◌}
use native.Mathlib.Omega.{arith}
use lib.Dec.{leb}
use lib.ListN.{length, take, drop, length-append}
use mir.Val.{Fits}
use mir.Syntax.{w64}
use Rattle.std.specs.Prelude.{Result, Ok, Err, Option, Some, None}
use Rattle.meaning.specs.Text.{text}
use Rattle.meaning.specs.Refusal.{LINE}
use Rattle.meaning.specs.Limits.{field_limit}
use Rattle.meaning.specs.Reading.{Got, Reader, after, give, due}
use Rattle.meaning.specs.Name.{Name}
use Rattle.meaning.specs.Sheet as M
use Rattle.meaning.specs.Sheet.{statuses, all_names, with_field}
use Rattle.meaning.specs.ReadSheet.{field_row, field_lines}
use Rattle.theory.specs.Reading.Answered.{Ends, left_at, ends_after, ends_map, line_ends}
use Rattle.theory.specs.Reading.Built.{line_fault}
use Rattle.theory.specs.Reading.Readers.{after_after}
use Rattle.theory.specs.Reading.Shown.{shown_ends}
use Rattle.theory.specs.Papers.Formed.{NoFields, NoEvents, names_field}
use Rattle.limits.specs.Sizes.{name_room}
use Rattle.reply.specs.declared.Fault.{Fault}
use Rattle.text.specs.declared.Taken.{Taken}
use Rattle.text.specs.Pieces.{as_length}
use Rattle.name.specs.declared.Name.{Name as Kept}
use Rattle.name.specs.Names.{kept, name_of, names_in, put_in}
use Rattle.name.proofs.Callers.{new_shows, good_again}
use Rattle.sheet_tables.specs.declared.Heads.{Heads}
use Rattle.sheet_tables.specs.Heads.{as_heads, heads_of}
use Rattle.sheet_section.specs.declared.Above.{Above}
use Rattle.sheet_section.specs.Answers.{as_above, as_row, row_name}
use Rattle.sheet_section.specs.Held.{Reached}
use Rattle.sheet_section.proofs.Ends.{closing, end_off, end_on}
use Rattle.sheet_section.proofs.Named.{Named, name_told, line_off, line_on}
use Rattle.sheet_section.proofs.Rows.{tabled, counted, names_so_far}
use Rattle.sheet_section.proofs.Sections.{Going, going_at, Row, RowTold, going_row, going_more}
use Rattle.sheet_fields.specs.Answers.{field}

-- A FIELD'S LINE, whose key and name stand
module _ (used : List Name) (full : Bool) (t : List ℕ) (o : Result (Option (Taken Kept)) Fault) (read : o ≡ row_name (text "field=") full used t)
    (x : Option (Taken Kept)) (ok : o ≡ Ok x) (w : Taken Kept) (some : x ≡ Some w) (u : List ℕ) (d : Result ℕ Fault) (behind : u ≡ drop w.bytes t)
    (asked : d ≡ as_length u (due LINE (text "\n") 0 u)) where
  abbrev ending : Name → Reader Name
  ending w = closing (give w)

  abbrev told : Result (Option (Taken Kept)) Fault
  told = as_row kept (text "field=") full (field used) t

  named : Named kept (text "field=") full used ending t w
  named = rw (ok, some) at (name_told kept (text "field=") full used ending t o read)

  pub field_open : (e : Fault) → d ≡ Err e → Err e ≡ told
  field_open e z = line_off kept (text "field=") full used ending t named e (end_off (give named.name) named.left u behind d asked e z)

  pub field_closed : (n : ℕ) → d ≡ Ok n → (b : Taken Kept) → b ≡ record { value = w.value; bytes = w.bytes + n } → Ok (Some b) ≡ told
  field_closed n z b e =
      let o = end_on (give named.name) named.left u behind d asked n z in
      let far : w.bytes + n ≡ w.bytes + o.bytes = omega (arith, o.same) in
      line_on kept (text "field=") full used ending t named o.left (omega (arith, named.far)) b
      (e ∙ ap₂ (λ v m. record { value = v; bytes = m }) named.same far)

pub ruleset lining = (field_open, field_closed)

-- THE SECTION: all that is read with the fields behind what was read before, and where their section stands
abbrev whole : List ℕ → Above → Got M.Heads
whole s before = field_lines (heads_of before.heads) before.line (drop before.at s)

pub record Fields (s : List ℕ) (before : Above) (a : Above) : Type 0 where
  pub small : length s < 2 ^ 64
  pub going : Going (text "field=") field_row field_limit (λ hd. length hd.fields) NoEvents s (whole s before) a

none_yet : (hd : M.Heads) → NoFields hd → field_limit - length hd.fields ≡ field_limit
none_yet hd h = rw h.0

pub fields_start : (s : List ℕ) (before : Above) → Reached NoFields s before → length s < 2 ^ 64 → Fields s before before
fields_start s before reached small =
    record {
      small = small;
      going =
          going_at {key = text "field="} {row = field_row} {limit = field_limit} {size = λ hd. length hd.fields} {P = NoFields} {Q = NoEvents} field_lines
          before (λ hd h. (h.1, h.2, h.3)) (λ hd h l t. rw (none_yet hd h)) reached;
    }

abbrev Again : Name → ℕ → Type 0
Again w n = name_of (kept w) ≡ w

field_ends : (used : List Name) (u : List ℕ) → Ends suc Again (field used) u
field_ends used u =
    ends_after Again _ (shown_ends (new_shows used) u) λ w n h. ends_map {Q = Again} (λ _. w) (λ u i e. good_again w h.0) (line_ends line_fault (drop n u))

rows : (hd : M.Heads) (g : M.Heads → Reader M.Heads) (l : ℕ) (t : List ℕ)
    → after (field_row hd l t) g ≡ after (field (all_names hd) l t) (λ w. g (with_field hd w))
unfolding field_row
rows hd g l t = simp after_after

-- the tables with one more
heads_field : (hd : M.Heads) (w : Name) (h : Heads) → h ≡ as_heads hd → (ns : List ℕ) → ns ≡ (as_heads (with_field hd w)).names
    → tabled h.model (h.fields + 1) h.events h.stages h.miles ns h.carried h.carries h.under ≡ as_heads (with_field hd w)
unfolding as_heads statuses
heads_field hd w h is ns e = rw (e, is, length-append hd.fields (w ∷ []))

module _ (s : List ℕ) (before : Above) (a : Above) (i : Fields s before a) where
  abbrev h : Heads
  h = a.heads

  abbrev hd : M.Heads
  hd = i.going.sheet

  counts : (h.fields ≡ length hd.fields) × (h.fields ≡ length (all_names hd))
  counts =
      let c = counted h hd i.going.is in
      let e : length hd.events ≡ 0 = rw i.going.late.0 in
      let x : length hd.stages ≡ 0 = rw i.going.late.1 in
      let m : length hd.miles ≡ 0 = rw i.going.late.2 in
      (c.0, omega arith)

  module _ (v : List ℕ) (o : Result (Option (Taken Kept)) Fault) (rest : v ≡ drop a.at s)
      (read : o ≡ as_row kept (text "field=") (leb field_limit h.fields) (field (take h.fields (names_in h.names))) v) where
    row : RowTold i.going kept Again (with_field hd) o
    row =
        let used = names_so_far h hd i.going.is i.going.plain h.fields counts.1 in
        going_row i.going kept Again (with_field hd) (field_ends (all_names hd)) (rows hd) field_limit h.fields
        (omega (arith, counts.0)) v o rest (rw used at read)

    pub fields_wrong : (e : Fault) → o ≡ Err e → (l : ℕ) → l ≡ a.line → Err (record { fault = e; line = l }) ≡ as_above s (whole s before)
    fields_wrong e z l y = rw y (rw z at row)

    pub fields_over : (x : Option (Taken Kept)) → o ≡ Ok x → x ≡ None → Ok a ≡ as_above s (whole s before)
    fields_over x z y = rw (z, y) at row

    module _ (x : Option (Taken Kept)) (ok : o ≡ Ok x) (w : Taken Kept) (some : x ≡ Some w) where
      read_row : Row i.going kept Again (with_field hd) w
      read_row = rw (ok, some) at row

      bytes : w.bytes ≡ 6 + read_row.bytes
      bytes = ap (λ (w : Taken Kept). w.bytes) read_row.same

      pub fields_at : Fits w64 (a.at + w.bytes)
      fields_at = omega (arith, read_row.left.within, i.small)

      pub fields_number : Fits w64 (a.line + 1)
      fields_number = omega (arith, read_row.left.within, i.small, i.going.lines, bytes)

      pub fields_less : field_limit - (h.fields + 1) < field_limit - h.fields
      fields_less = omega (arith, read_row.room, counts.0)

      pub fields_put : h.fields < name_room
      fields_put = omega (arith, read_row.room, counts.0)

      pub fields_more : (line : ℕ) → line ≡ a.line + 1 → (at : ℕ) → at ≡ a.at + w.bytes → (ns : List ℕ) → ns ≡ put_in h.names h.fields w.value
          → Fields s before (record { line = line; at = at; heads = tabled h.model (h.fields + 1) h.events h.stages h.miles ns h.carried h.carries h.under })
      fields_more line line_is at at_is ns p =
          let g = i.going in
          let plain = g.plain in
          let name = read_row.value in
          let one : length (hd.fields ++ (name ∷ [])) ≡ length hd.fields + 1 = length-append hd.fields (name ∷ []) in
          record {
            small = i.small;
            going =
                going_more g h.fields w.value name counts.1 fields_put (ap (λ (w : Taken Kept). w.value) read_row.same) read_row.holds read_row.room
                (with_field hd name) g.late one (names_field hd name g.late) _ line_is (omega (arith, g.lines, bytes))
                (left_at read_row.left at at_is) (λ e. heads_field hd name h g.is ns (p ∙ e))
                (λ a. record {
                  names =
                      a;
                  carried =
                      plain.carried;
                  few_fields = omega (arith, read_row.room);
                  few_events = plain.few_events;
                  few_statuses = plain.few_statuses;
                });
          }

pub ruleset fielding = (fields_start, fields_wrong, fields_over, fields_at, fields_number, fields_less, fields_put, fields_more)
