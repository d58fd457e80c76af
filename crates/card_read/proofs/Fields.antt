-- The lines of the fields, one at a time.
use Prim.Native.Nat.{ℕ, suc, ◌+◌, ◌≤◌, ◌<◌}
use mathlib.Core.Path.{◌≡◌, refl, sym, ◌∙◌, ap}
use mathlib.Core.List.{List, [], ◌∷◌, ◌++◌}
use native.Mathlib.Omega.{arith}
use lib.ListN.{length, take, drop, get_or, set, replicate, length-drop}
use lib.Seq.{get_or-take, length-take-le}
use mir.Val.{Fits}
use mir.Syntax.{w64}
use Rattle.std.specs.Prelude.{Result, Ok, Err}
use Rattle.meaning.specs.Limits.{card_bytes, field_limit}
use Rattle.meaning.specs.Reading.{each}
use Rattle.meaning.specs.Name.{Name}
use Rattle.meaning.specs.Number.{Entry}
use Rattle.meaning.specs.Card.{field_entry, ended, field_line}
use Rattle.theory.specs.Reading.Each.{Part, part_start, part_end, part_off, part_on}
use Rattle.theory.specs.Reading.Told.{took}
use Rattle.reply.specs.declared.Fault.{Fault}
use Rattle.reply.specs.declared.Wrong.{Wrong}
use Rattle.name.specs.declared.Name.{Name as Kept}
use Rattle.name.specs.Names.{name_of, names_in, name_at}
use Rattle.name.proofs.Tables.{name_at_lem}
use Rattle.card_lines.specs.declared.Shown.{Shown}
use Rattle.card_lines.specs.Answers.{as_value, on_line}
use Rattle.card_lines.proofs.Callers.{field_line_ends, Valued, value_took, value_refuses}
use Rattle.card_lines.proofs.Papers.{line_went, line_fails}
use Rattle.card_read.specs.declared.FieldsRead.{FieldsRead}
use Rattle.card_read.specs.Parts.{fields_from}
use Rattle.case_tables.proofs.Rows.{Laid, laid_none, laid_more}
use Rattle.sheet_tables.proofs.Names.{names_cons}

-- before line i of these
pub record FieldsAt (s : List ℕ) (ns : List Name) (p at : ℕ) (values starts lengths : List ℕ) (i : ℕ) : Type 0 where
  pub es : List Entry
  pub part : Part (λ n. ended (field_entry n)) ns (each (λ n. ended (field_entry n)) ns (field_line 0) (drop p s)) s (field_line i) at i es
  pub laid : Laid p ns values starts lengths es at

pub fields_start : (s : List ℕ) (ns : List Name) (p : ℕ) → p ≤ length s
    → FieldsAt s ns p p (replicate field_limit 0) (replicate field_limit 0) (replicate field_limit 0) 0
fields_start s ns p h = record { es = []; part = part_start _ ns s (field_line 0) p h; laid = laid_none p ns }

same_fields : {at : ℕ} {v w p q n m : List ℕ} → v ≡ w → p ≡ q → n ≡ m
    → ◌≡◌ {A = FieldsRead} (record { at = at; values = v; starts = p; lengths = n }) (record { at = at; values = w; starts = q; lengths = m })
same_fields a b c = rw (a, b, c)

module _ (s names : List ℕ) (count p at : ℕ) (values starts lengths : List ℕ) (i : ℕ)
    (g : FieldsAt s (take count (names_in names)) p at values starts lengths i) (held : count ≤ length (names_in names)) where
  pub fields_done : count ≤ i
      → Ok (record { at = at; values = values; starts = starts; lengths = lengths }) ≡ fields_from (take count (names_in names)) p s
  fields_done h =
      let d = length-take-le count (names_in names) held in
      let e = part_end g.part (omega arith) in
      rw (e, took s at g.part.within) (ap Ok (same_fields g.laid.rows.coded g.laid.rows.placed g.laid.rows.sized))

  module _ (more : i < count) (d : Kept) (due : d ≡ name_at names i) (t : List ℕ) (q : Result Shown Fault) (rest : t ≡ drop at s)
      (is : q ≡ as_value (length (name_of d) + 1) t (ended (field_entry (name_of d)) 0 t)) (l : ℕ) (line : l ≡ field_line i) (r : Result Shown Wrong)
      (told : r ≡ on_line q l) where
    name_is : name_of d ≡ get_or (names_in names) i []
    name_is = ap name_of due ∙ name_at_lem names i

    next : drop i (take count (names_in names)) ≡ name_of d ∷ drop (i + 1) (take count (names_in names))
    next = names_cons (names_in names) count i more held ∙ rw (← name_is)

    pub fields_bad : (w : Wrong) → r ≡ Err w → Err w ≡ fields_from (take count (names_in names)) p s
    fields_bad w e =
        let f = line_fails (value_refuses _ 1 (field_line_ends _ t) q is) (field_line i) r (rw line at told) w e in
        rw (f.is, part_off g.part (name_of d) next t rest f.number (field_line i) f.reads)

    module _ (v : Shown) (e : r ≡ Ok v) where
      taken : Valued suc (length (name_of d) + 1) (ended (field_entry (name_of d))) t v (v.start + v.length + 1)
      taken = value_took _ 1 (field_line_ends _ t) q is v _ (line_went q l r told v e) refl

      fits : at + v.start + v.length + 1 ≤ length s
      fits = omega (arith, taken.within, ap length rest, length-drop at s, g.part.within)

      pub fields_room : length s ≤ card_bytes → (j : ℕ) → j ≡ at + v.start → Fits w64 j
      fields_room h j z = omega (arith, fits)

      pub fields_room_2 : length s ≤ card_bytes → (j : ℕ) → j ≡ at + v.start + v.length → Fits w64 j
      fields_room_2 h j z = omega (arith, fits)

      pub fields_room_3 : length s ≤ card_bytes → (j : ℕ) → j ≡ at + v.start + v.length + 1 → Fits w64 j
      fields_room_3 h j z = omega (arith, fits)

      pub fields_more : count ≤ field_limit → (start at' i' : ℕ) → start ≡ at + v.start → at' ≡ start + v.length + 1 → i' ≡ i + 1
          → FieldsAt s (take count (names_in names)) p at' (set values i v.value) (set starts i start) (set lengths i v.length) i'
      fields_more h start at' i' b x y =
          let ns = take count (names_in names) in
          let d : length ns ≡ count = length-take-le count (names_in names) held in
          let c : length (get_or ns i []) + 1 ≡ v.start = rw (get_or-take count (names_in names) i [] more, ← name_is) (sym taken.place) in
          let z : field_line i' ≡ suc (field_line i) = omega arith in
          record {
            es = g.es ++ (taken.entry ∷ []);
            part =
                part_on g.part _ next t rest taken.entry (v.start + v.length + 1) at' i' (field_line i') taken.within
                (rw z (taken.is (field_line i))) (omega arith) y;
            laid =
                laid_more g.laid i g.part.many (omega arith) (omega arith) taken.entry v.value start v.length at' taken.value taken.size
                (omega arith) x;
          }

pub ruleset fielding = (fields_start, fields_done, fields_bad, fields_room, fields_room_2, fields_room_3, fields_more)
