-- The event lines: the way into their section, each way out, and on to the next line.
use Prim.Native.Nat.{ℕ, suc, ◌+◌, ◌-◌, ◌*◌, ◌^◌, ◌<◌, ◌≤◌}
use mathlib.Core.Path.{◌≡◌, refl, sym, ◌∙◌, ap}
use mathlib.Core.Bool.{Bool}
use mathlib.Core.List.{List, [], ◌∷◌, ◌++◌, append_assoc}
use native.Mathlib.Nat.{sub-zero}
use native.Mathlib.Omega.{arith}
use borrow.Rule.Slice.PartMut.{put_mid, Post-is}
use lib.Dec.{leb}
use lib.ListN.{length, take, drop, set, replicate, length-append, length-drop}
use lib.Seq.{sets, sets-eq, drop-drop}
use mir.Val.{Fits}
use mir.Syntax.{w64}
use Rattle.std.specs.Prelude.{Result, Ok, Err, Option, Some, None}
use Rattle.meaning.specs.Text.{text, joined}
use Rattle.meaning.specs.Limits.{field_limit, event_limit}
use Rattle.meaning.specs.Reading.{Got, Reader, after}
use Rattle.meaning.specs.Name.{Name}
use Rattle.meaning.specs.Sheet as M
use Rattle.meaning.specs.Sheet.{statuses, all_names, with_event}
use Rattle.meaning.specs.ReadSheet.{event_row, event_lines}
use Rattle.theory.specs.Lists.Members.{joined_more}
use Rattle.theory.specs.Lists.Padded.{padded, mapped_set, padded_sets, padded_length}
use Rattle.theory.specs.Papers.Formed.{NoEvents, NoStages, names_event}
use Rattle.theory.specs.Reading.Answered.{Left, left_at}
use Rattle.theory.specs.Reading.Readers.{after_after}
use Rattle.limits.specs.Sizes.{name_room, carried_room}
use Rattle.reply.specs.declared.Fault.{Fault}
use Rattle.text.specs.declared.Taken.{Taken}
use Rattle.name.specs.declared.Name.{Name as Kept}
use Rattle.name.specs.Names.{names_in, put_in, Again}
use Rattle.sheet_tables.specs.declared.Heads.{Heads}
use Rattle.sheet_tables.specs.Heads.{as_heads, heads_of}
use Rattle.sheet_section.specs.declared.Above.{Above}
use Rattle.sheet_section.specs.Answers.{as_above, as_row, row_name}
use Rattle.sheet_section.specs.Held.{carried_row, Plain, Reached}
use Rattle.sheet_section.proofs.Rows.{tabled, counted, fields_known, names_so_far}
use Rattle.sheet_section.proofs.Sections.{Going, going_at, next, Row, RowTold, going_row, going_more}
use Rattle.sheet_section.proofs.Named.{Named}
use Rattle.sheet_events.specs.Answers.{as_piece, event, piece}
use Rattle.sheet_events.proofs.Pieces.{Pieces, pieces_start, pieces_wrong, pieces_over}
use Rattle.sheet_events.proofs.Line.{ending, Known, told, name_wrong, name_none, named, line_wrong, line_read, event_ends}

-- ALL THAT IS READ with the events, and where their section stands
abbrev whole : List ℕ → Above → Got M.Heads
whole s before = event_lines (heads_of before.heads) before.line (drop before.at s)

pub record Events (s : List ℕ) (before : Above) (a : Above) : Type 0 where
  pub small : length s < 2 ^ 64
  pub going : Going (text "event=") event_row event_limit (λ hd. length hd.events) NoStages s (whole s before) a

none_yet : (hd : M.Heads) → NoEvents hd → event_limit - length hd.events ≡ event_limit
none_yet hd h = rw h.0

pub events_start : (s : List ℕ) (before : Above) → Reached NoEvents s before → length s < 2 ^ 64 → Events s before before
events_start s before reached small =
    record {
      small = small;
      going =
          going_at {key = text "event="} {row = event_row} {limit = event_limit} {size = λ hd. length hd.events} {P = NoEvents} {Q = NoStages} event_lines
          before (λ hd h. (h.1, h.2)) (λ hd h l t. rw (none_yet hd h)) reached;
    }

rows : (hd : M.Heads) (g : M.Heads → Reader M.Heads) (l : ℕ) (t : List ℕ)
    → after (event_row hd l t) g ≡ after (event hd.fields (length hd.fields) (all_names hd) l t) (λ e. g (with_event hd e))
unfolding event_row
rows hd g l t = simp after_after

event_told : {fs gs us vs : List Name} {m n : ℕ} → fs ≡ gs → m ≡ n → us ≡ vs → (c : Bool) (t : List ℕ)
    → as_row (λ (e : M.Event). e) (text "event=") c (event fs m us) t ≡ as_row (λ (e : M.Event). e) (text "event=") c (event gs n vs) t
event_told e z u c t = rw (e, z, u)

-- ONE MORE EVENT
laid : (xs ys : List ℕ) (a n : ℕ) → n ≡ length ys → a + n ≤ length xs → put_mid a (a + n - a) xs ys ≡ sets xs a ys
laid xs ys a n z h =
    let fits : a + length ys ≤ length xs = omega arith in
    let far : a + n ≡ a + length ys = omega arith in
    ap (λ t. take a xs ++ (ys ++ t)) (Post-is a (a + n) xs (omega arith) ∙ ap (λ k. drop k xs) far)
    ∙ sym (append_assoc (take a xs) ys (drop (a + length ys) xs))
    ∙ sym (sets-eq ys xs a fits)

module _ (hd : M.Heads) (e : M.Event) (few : length e.carries ≤ field_limit) (room : length hd.events < event_limit) (plain : Plain hd) where
  abbrev so : List M.Event
  so = hd.events

  row_length : length (carried_row e) ≡ field_limit
  row_length = padded_length field_limit 0 e.carries few

  plain_event : Again (all_names (with_event hd e)) → Plain (with_event hd e)
  plain_event a =
      let n = length-append so (e ∷ []) in
      let rows : length (joined carried_row so ++ carried_row e) ≡ field_limit * length (so ++ (e ∷ []))
      = omega (arith, plain.carried, length-append (joined carried_row so) (carried_row e), row_length) in
      record {
        names =
            a;
        carried = rw (joined_more carried_row so e) rows;
        few_fields = plain.few_fields;
        few_events = omega arith;
        few_statuses = plain.few_statuses;
      }

  -- its fields stand behind the rows of those before it
  cells_all : (x : ℕ) → x ≡ field_limit * length so
      → put_mid x (x + field_limit - x) (padded carried_room 0 (joined carried_row so)) (carried_row e)
      ≡ padded carried_room 0 (joined carried_row (so ++ (e ∷ [])))
  cells_all x z =
      let y : x ≡ length (joined carried_row so) = omega (arith, plain.carried) in
      let long : length (padded carried_room 0 (joined carried_row so)) ≡ carried_room
      = padded_length carried_room 0 (joined carried_row so) (omega (arith, plain.carried, plain.few_events)) in
      laid (padded carried_room 0 (joined carried_row so)) (carried_row e) x field_limit (sym row_length) (omega (arith, long))
      ∙ ap (λ n. sets (padded carried_room 0 (joined carried_row so)) n (carried_row e)) y
      ∙ padded_sets carried_room 0 (carried_row e) (joined carried_row so) (omega (arith, plain.carried, row_length))
      ∙ ap (padded carried_room 0) (sym (joined_more carried_row so e))

  heads_event : (h : Heads) → h ≡ as_heads hd → (x : ℕ) → x ≡ field_limit * h.events → (ys : List ℕ) → ys ≡ carried_row e → (cs : List ℕ)
      → cs ≡ put_mid x (x + field_limit - x) h.carried ys → (count : ℕ) → count ≡ length e.carries → (ns : List ℕ) → ns ≡ (as_heads (with_event hd e)).names
      → tabled h.model h.fields (h.events + 1) h.stages h.miles ns cs (set h.carries h.events count) h.under ≡ as_heads (with_event hd e)
  unfolding as_heads statuses
  heads_event h is x x-is ys ys-is cs cs-is count count_is ns names =
      let z : x ≡ field_limit * length so = x-is ∙ rw is in
      rw (cs-is, names, ys-is, count_is, is, cells_all x z, mapped_set event_limit (λ (y : M.Event). length y.carries) so e room, length-append so (e ∷ []))

module _ (s : List ℕ) (before : Above) (a : Above) (i : Events s before a) where
  abbrev h : Heads
  h = a.heads

  abbrev hd : M.Heads
  hd = i.going.sheet

  counts : (h.fields ≡ length hd.fields) × (h.events ≡ length hd.events) × (h.fields + h.events ≡ length (all_names hd))
  counts =
      let c = counted h hd i.going.is in
      let x : length hd.stages ≡ 0 = rw i.going.late.0 in
      let m : length hd.miles ≡ 0 = rw i.going.late.1 in
      (c.0, c.1, omega arith)

  module _ (v : List ℕ) (o : Result (Option (Taken Kept)) Fault) (rest : v ≡ drop a.at s)
      (read : o ≡ row_name (text "event=") (leb event_limit h.events) (take (h.fields + h.events) (names_in h.names)) v) where
    abbrev fs : List Name
    fs = take h.fields (names_in h.names)

    abbrev full : Bool
    full = leb event_limit h.events

    abbrev used : List Name
    used = take (h.fields + h.events) (names_in h.names)

    row : (r : Result (Option (Taken M.Event)) Fault) → r ≡ told fs h.fields used full v
        → RowTold i.going (λ (e : M.Event). e) (Known (length hd.fields)) (with_event hd) r
    row r is =
        let all = names_so_far h hd i.going.is i.going.plain (h.fields + h.events) counts.2 in
        let z : h.fields - 0 ≡ h.fields = sub-zero h.fields in
        let known : take h.fields (names_in h.names) ≡ hd.fields
        = ap (λ n. take n (names_in h.names)) (sym z) ∙ fields_known h hd i.going.is i.going.plain h.fields counts.0 in
        going_row i.going (λ (e : M.Event). e) (Known (length hd.fields)) (with_event hd) (event_ends hd.fields (length hd.fields) (all_names hd)) (rows hd)
        event_limit h.events
        (omega (arith, counts.1)) v r rest (is ∙ event_told known counts.0 all full v)

    -- the section is left: a name is refused, or no event stands
    pub events_wrong : (e : Fault) → o ≡ Err e → (l : ℕ) → l ≡ a.line → Err (record { fault = e; line = l }) ≡ as_above s (whole s before)
    events_wrong e z l y = rw y (row (Err e) (name_wrong fs h.fields used full v o read e z))

    pub events_over : (x : Option (Taken Kept)) → o ≡ Ok x → x ≡ None → Ok a ≡ as_above s (whole s before)
    events_over x z y = row (Ok None) (name_none fs h.fields used full v o read x z y)

    -- an event has begun
    module _ (x : Option (Taken Kept)) (ok : o ≡ Ok x) (w : Taken Kept) (some : x ≡ Some w) where
      abbrev begun : Named (λ (e : M.Event). e) (text "event=") full used (ending fs h.fields) v w
      begun = named fs h.fields used full v o read x ok w some

      module _ (u : List ℕ) (behind : u ≡ drop (a.at + w.bytes) s) where
        rest_is : u ≡ drop w.bytes v
        rest_is = behind ∙ rw (rest, drop-drop w.bytes a.at s)

        pub events_pieces : (row : List ℕ) → row ≡ replicate field_limit 0 → Pieces u (names_in h.names) h.fields row 0 0
        events_pieces row is =
            let small : length u < 2 ^ 64 = omega (arith, i.small, ap length behind, length-drop (a.at + w.bytes) s) in
            pieces_start u (names_in h.names) h.fields row is small i.going.counts.0

        module _ (cells : List ℕ) (count at : ℕ) (j : Pieces u (names_in h.names) h.fields cells count at) (u' : List ℕ) (place : u' ≡ drop at u)
            (part : List ℕ) (taken : part ≡ take count cells) (p : Result (Option (Taken ℕ)) Fault)
            (asked : p ≡ as_piece u' (piece fs (leb h.fields (length part)) part 0 u')) where
          -- a piece is refused
          pub events_fault : (e : Fault) → p ≡ Err e → (l : ℕ) → l ≡ a.line → Err (record { fault = e; line = l }) ≡ as_above s (whole s before)
          events_fault e z l y =
              let q = pieces_wrong u (names_in h.names) h.fields cells count at j u' place part taken p asked e z in
              rw y (row (Err e) (line_wrong fs h.fields used full v o read x ok w some u (Err e) rest_is q e refl))

          -- its line is over
          module _ (y : Option (Taken ℕ)) (fine : p ≡ Ok y) (none : y ≡ None) where
            abbrev event_is : M.Event
            event_is = record { name = begun.name; carries = j.so }

            read_row : Row i.going (λ (e : M.Event). e) (Known (length hd.fields)) (with_event hd) (record { value = event_is; bytes = w.bytes + (at + 1) })
            read_row =
                let q = pieces_over u (names_in h.names) h.fields cells count at j u' place part taken p asked y fine none in
                row _ (line_read fs h.fields used full v o read x ok w some u _ rest_is q (record { value = j.so; bytes = at + 1 }) refl)

            same : event_is ≡ read_row.value
            same = ap (λ (t : Taken M.Event). t.value) read_row.same

            pub events_ended : Fits w64 (w.bytes + at + 1)
            events_ended = omega (arith, read_row.left.within, i.small)

            pub events_at : Fits w64 (a.at + (w.bytes + at + 1))
            events_at = omega (arith, read_row.left.within, i.small)

            put : h.fields + h.events < name_room
            put = omega (arith, read_row.room, counts.1, i.going.counts)

            few : length j.so ≤ field_limit
            few = omega (arith, j.count_is, j.fewer, j.few)

            pub events_more : (line : ℕ) → line ≡ a.line + 1 → (to : ℕ) → to ≡ a.at + (w.bytes + at + 1) → (ns : List ℕ)
                → ns ≡ put_in h.names (h.fields + h.events) w.value → (ys : List ℕ) → ys ≡ cells → (cs : List ℕ)
                → cs ≡ put_mid (field_limit * h.events) (field_limit * h.events + field_limit - field_limit * h.events) h.carried ys
                → Events s before (record {
                  line = line;
                  at = to;
                  heads = tabled h.model h.fields (h.events + 1) h.stages h.miles ns cs (set h.carries h.events count) h.under;
                })
            events_more line line_is to to_is ns p ys ys_is cs cs_is =
                let g = i.going in
                let e = event_is in
                let left : Left (whole s before) (next g (with_event hd e)) (suc a.line) to s
                = rw same (left_at read_row.left to (omega (arith, to_is))) in
                record {
                  small = i.small;
                  going =
                      going_more g (h.fields + h.events) w.value e.name counts.2 put begun.same begun.again read_row.room (with_event hd e) g.late
                      (length-append hd.events (e ∷ [])) (names_event hd e g.late) _ line_is (omega (arith, g.lines, line_is, to_is)) left
                      (λ q. heads_event hd e few read_row.room g.plain h g.is (field_limit * h.events) refl ys (ys_is ∙ j.row_is) cs cs_is count j.count_is ns
                      (p ∙ q))
                      (plain_event hd e few read_row.room g.plain);
                }

pub ruleset reading = (
  events_start,
  events_wrong,
  events_over,
  events_pieces,
  events_fault,
  events_ended,
  events_at,
  events_more,
)
