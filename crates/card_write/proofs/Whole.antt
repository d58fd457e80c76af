-- The whole card: its lines as the tables give them, and what the lent space holds where it fits and where it does not.
use mathlib.Core.Path.{◌≡◌, refl, ap, sym, ◌∙◌}
use mathlib.Core.List.{List, [], ◌∷◌, ◌++◌, map}
use Prim.Native.Nat.{ℕ, suc, ◌+◌, ◌<◌, ◌≤◌}
use native.Mathlib.Omega.{arith}
use borrow.Author.Tests.{le-leb, lt-leb}
use lib.ListN.{length, drop, take, length-append, length-take, length-drop, length-map}
use lib.Seq.{length-take-le}
use Rattle.std.specs.Prelude.{Some, None}
use Rattle.meaning.specs.Text.{text, from}
use Rattle.meaning.specs.Limits.{field_limit, status_limit}
use Rattle.meaning.specs.Name.{Name}
use Rattle.meaning.specs.Number.{Entry, decimal}
use Rattle.meaning.specs.Sheet.{Status, statuses, status_names}
use Rattle.meaning.specs.Write.{line, lines, mark, card_text}
use Rattle.theory.specs.Lists.Members.{from_length}
use Rattle.theory.specs.Writing.ReadBack.{line_length_lem}
use Rattle.limits.specs.Sizes.{name_room}
use Rattle.name.specs.Names.{name_of, names_in, part_of, table_words}
use Rattle.name.proofs.Tables.{table_length, part_names}
use Rattle.marks.specs.Codes.{is_yes}
use Rattle.sheet_tables.specs.declared.Heads.{Heads}
use Rattle.sheet_tables.specs.Heads.{heads_of, Sized}
use Rattle.sheet_tables.proofs.Names.{model_is, fields_are, statuses_are}
use Rattle.case_tables.specs.declared.Card.{Card}
use Rattle.case_tables.specs.declared.Happening.{Happening}
use Rattle.theory.specs.Writing.Lent.{Wrote, wrote_room, wrote_both}
use Rattle.card_write.specs.Texts.{showing, value_text, next_text}
use Rattle.card_write.specs.Lines.{mark_at, lines_from}
use Rattle.card_write.proofs.Rows.{value_short, mark_short}
use Rattle.card_write.specs.Answers.{as_written, space_with}

-- LINES OF TABLES

-- the fields' lines
fields_lines : (t : ℕ → List ℕ) (ns : List Name) (i : ℕ) → lines (λ (e : Entry). e.shown) ns (map (λ f. showing (t f)) (from i (length ns))) ≡ lines_from t ns i
unfolding lines from lines_from
fields_lines t [] i = refl
fields_lines t (n ∷ ns) i = ap (λ r. line n (t i) ++ r) (fields_lines t ns (suc i))

-- the same texts, each one place earlier
lines_earlier : (t : ℕ → List ℕ) (ns : List Name) (i : ℕ) → lines_from (λ x. t (suc x)) ns i ≡ lines_from t ns (suc i)
unfolding lines_from
lines_earlier t [] i = refl
lines_earlier t (n ∷ ns) i = ap (λ r. line n (t (suc i)) ++ r) (lines_earlier t ns (suc i))

-- the statuses' lines
marks_lines : (ns : List Name) (ms : List ℕ) → length ns ≤ length ms → lines mark ns (map is_yes (take (length ns) ms)) ≡ lines_from (mark_at ms) ns 0
unfolding lines lines_from
marks_lines [] ms h = refl
marks_lines (n ∷ ns) [] h = absurd (omega arith)
marks_lines (n ∷ ns) (m ∷ ms) h = ap (λ r. line n (mark (is_yes m)) ++ r) (marks_lines ns ms (omega arith) ∙ lines_earlier (mark_at (m ∷ ms)) ns 0)

-- THE NAMES OF THE FIELDS AND OF THE STATUSES
module _ (h : Heads) (sized : Sized h) (long : length (names_in h.names) ≡ name_room) where
  abbrev field_names : List Name
  field_names = take h.fields (names_in h.names)

  abbrev marked : List Name
  marked = take (h.stages + h.miles) (drop (h.fields + h.events) (names_in h.names))

  fields_many : length field_names ≡ h.fields
  fields_many = length-take-le h.fields (names_in h.names) (omega (arith, sized.few_fields))

  statuses_many : length marked ≡ h.stages + h.miles
  statuses_many =
      length-take-le (h.stages + h.miles) (drop (h.fields + h.events) (names_in h.names))
      (omega (arith, length-drop (h.fields + h.events) (names_in h.names), sized.few_fields, sized.few_events, sized.few_statuses))

  -- as parts of the table
  pub names_room : 0 + h.fields ≤ length (names_in h.names)
  names_room = omega (arith, sized.few_fields)

  pub statuses_room : (a n : ℕ) → a ≡ h.fields + h.events → n ≡ h.stages + h.miles → a + n ≤ length (names_in h.names)
  statuses_room a n e f = omega (arith, sized.few_fields, sized.few_events, sized.few_statuses)

  module _ (p : List ℕ) where
    fields_part : p ≡ part_of h.names 0 h.fields → names_in p ≡ field_names
    fields_part e = ap names_in e ∙ part_names h.names 0 h.fields

    pub fields_few : p ≡ part_of h.names 0 h.fields → length (names_in p) ≤ field_limit
    fields_few e = omega (arith, ap length (fields_part e), fields_many, sized.few_fields)

    module _ (a n : ℕ) (start : a ≡ h.fields + h.events) (count : n ≡ h.stages + h.miles) (e : p ≡ part_of h.names a n) where
      marks_part : names_in p ≡ marked
      marks_part = ap names_in e ∙ part_names h.names a n ∙ rw (start, count)

      pub marks_few : length (names_in p) ≤ status_limit
      marks_few = omega (arith, ap length marks_part, statuses_many, sized.few_statuses)

-- BOTH
module _ (h : Heads) (sized : Sized h) (long : length (names_in h.names) ≡ name_room) (event card : List ℕ) (e : Happening) (c : Card) (marks : List ℕ)
    (held : length marks ≡ status_limit) where
  fields_lined : (t : ℕ → List ℕ)
      → lines (λ (e : Entry). e.shown) (heads_of h).fields (map (λ f. showing (t f)) (from 0 (length (heads_of h).fields)))
      ≡ lines_from t (field_names h sized long) 0
  fields_lined t = rw (fields_are h) (fields_lines t (field_names h sized long) 0)

  fields_count : length (heads_of h).fields ≡ h.fields
  fields_count = rw (fields_are h) (fields_many h sized long)

  status_names_lem : status_names (statuses (heads_of h)) ≡ marked h sized long
  status_names_lem = statuses_are h (omega (arith, sized.few_fields, sized.few_events, sized.few_statuses))

  statuses_count : length (statuses (heads_of h)) ≡ length (marked h sized long)
  unfolding status_names
  statuses_count = sym (length-map (statuses (heads_of h)) (λ (s : Status). s.name)) ∙ ap length status_names_lem

  few : length (marked h sized long) ≤ length marks
  few = omega (arith, statuses_many h sized long, sized.few_statuses)

  marks_are : lines mark (status_names (statuses (heads_of h))) (map is_yes (take (length (marked h sized long)) marks))
      ≡ lines_from (mark_at marks) (marked h sized long) 0
  marks_are = rw status_names_lem (marks_lines (marked h sized long) marks few)

  count_is : length (map (λ f. showing (value_text event card e c f)) (from 0 (length (heads_of h).fields))) + length
      (map is_yes (take (length (statuses (heads_of h))) marks)) ≡ h.fields + length (marked h sized long)
  count_is =
      omega (
        arith,
        length-map (from 0 (length (heads_of h).fields)) (λ f. showing (value_text event card e c f)),
        from_length (length (heads_of h).fields) 0,
        fields_count,
        length-map (take (length (statuses (heads_of h))) marks) is_yes,
        length-take (length (statuses (heads_of h))) marks,
        statuses_count,
        few,
      )

  module _ (p : List ℕ) (p_is : p ≡ part_of h.names 0 h.fields) (start n : ℕ) (from : start ≡ h.fields + h.events) (many : n ≡ h.stages + h.miles)
      (q : List ℕ) (q-is : q ≡ part_of h.names start n) where
    abbrev first : List ℕ
    first = line (text "case") (name_of h.model)

    abbrev fields : List ℕ
    fields = lines_from (value_text event card e c) (names_in p) 0

    abbrev rows : List ℕ
    rows = lines_from (mark_at marks) (names_in q) 0

    abbrev last : ℕ → List ℕ
    last k = line (text "end") (decimal k)

    module _ (m : ℕ) (count : m ≡ length (names_in q)) (k : ℕ) (all : k ≡ h.fields + m) where
      next_is : next_text (heads_of h) event card e c marks ≡ first ++ fields ++ rows ++ last k
      unfolding next_text card_text
      next_is =
          rw (
            all,
            count,
            fields_part h sized long p p_is,
            marks_part h sized long q start n from many q-is,
            fields_lined (value_text event card e c),
            count_is,
            statuses_count,
            marks_are,
            model_is h,
          )

      pub lines_few : k < 100
      lines_few = omega (arith, marks_few h sized long q start n from many q-is, sized.few_fields)

      -- measured
      pub card_long : (f w d b : ℕ) → f ≡ length (name_of h.model) → w ≡ length fields → d ≡ length rows → b ≡ length (decimal k)
          → (r : ℕ) → r ≡ f + 6 + w + d + (b + 5) → r ≡ length (next_text (heads_of h) event card e c marks)
      card_long f w d b x y z u r v =
          omega (
            arith,
            ap length next_is,
            length-append (first ++ fields ++ rows) (last k),
            length-append (first ++ fields) rows,
            length-append first fields,
            line_length_lem (text "case") (name_of h.model),
            line_length_lem (text "end") (decimal k),
          )

    -- written, one piece behind the other
    module _ (o : List ℕ) (fits : length (next_text (heads_of h) event card e c marks) ≤ length o) where
      whole : 0 + length (first ++ fields ++ rows ++ last (h.fields + length (names_in q))) ≤ length o
      whole = omega (arith, ap length (next_is (length (names_in q)) refl (h.fields + length (names_in q)) refl))

      rows_fit : 0 + length (first ++ fields ++ rows) ≤ length o
      rows_fit = omega (arith, whole, length-append (first ++ fields ++ rows) (last (h.fields + length (names_in q))))

      fields_fit : 0 + length (first ++ fields) ≤ length o
      fields_fit = omega (arith, rows_fit, length-append (first ++ fields) rows)

      pub card_case : length (line (text "case") (name_of h.model)) ≤ length o
      card_case = omega (arith, fields_fit, length-append first fields)

      module _ (o1 : List ℕ) (a : ℕ) (x : Wrote 0 (line (text "case") (name_of h.model)) o o1 a) where
        pub card_fields : a + length (lines_from (value_text event card e c) (names_in p) 0) ≤ length o1
        card_fields = wrote_room 0 first fields o o1 a fields_fit x

        module _ (o2 : List ℕ) (b : ℕ) (y : Wrote a (lines_from (value_text event card e c) (names_in p) 0) o1 o2 b) where
          front : Wrote 0 (first ++ fields) o o2 b
          front = wrote_both 0 first fields o o1 a fields_fit x o2 b y

          pub card_marks : b + length (lines_from (mark_at marks) (names_in q) 0) ≤ length o2
          card_marks = wrote_room 0 (first ++ fields) rows o o2 b rows_fit front

          module _ (o3 : List ℕ) (d : ℕ) (z : Wrote b (lines_from (mark_at marks) (names_in q) 0) o2 o3 d) (m : ℕ) (count : m ≡ length (names_in q))
              (k : ℕ) (all : k ≡ h.fields + m) where
            behind : Wrote 0 (first ++ fields ++ rows) o o3 d
            behind = wrote_both 0 (first ++ fields) rows o o2 b rows_fit front o3 d z

            ended : 0 + length (first ++ fields ++ rows ++ last k) ≤ length o
            ended = omega (arith, ap length (next_is m count k all))

            pub card_end : d + length (line (text "end") (decimal k)) ≤ length o3
            card_end = wrote_room 0 (first ++ fields ++ rows) (last k) o o3 d ended behind

            pub card_done : (o4 : List ℕ) (r : ℕ) → Wrote d (line (text "end") (decimal k)) o3 o4 r
                → Wrote 0 (next_text (heads_of h) event card e c marks) o o4 r
            card_done o4 r u =
                rw (next_is m count k all) (wrote_both 0 (first ++ fields ++ rows) (last k) o o3 d ended behind o4 r u)

pub ruleset measuring = (names_room, statuses_room, fields_few, marks_few, value_short, mark_short, lines_few, card_long)

pub ruleset carding = (names_room, statuses_room, marks_few, lines_few, card_case, card_fields, card_marks, card_end, card_done)

-- THE LENT SPACE

-- w is the text of the next card, n its length
module _ (w : List ℕ) (n : ℕ) (is : n ≡ length w) (o : List ℕ) where
  pub room_none : length o < n → None ≡ as_written o w
  unfolding as_written
  room_none g = sym (rw (← is, lt-leb n (length o) g))

  pub room_kept : length o < n → o ≡ space_with o w
  unfolding space_with
  room_kept g = sym (rw (← is, lt-leb n (length o) g))

  pub room_some : n ≤ length o → Some n ≡ as_written o w
  unfolding as_written
  room_some g = sym (rw (← is, le-leb n (length o) g))

  pub room_filled : n ≤ length o → (o1 : List ℕ) (r : ℕ) → Wrote 0 w o o1 r → o1 ≡ space_with o w
  unfolding space_with
  room_filled g o1 r y =
      let z : 0 + length w ≡ length w = omega arith in
      rw z at y.space ∙ sym (rw (le-leb (length w) (length o) (omega arith)))

  pub room_fits : n ≤ length o → length w ≤ length o
  room_fits g = omega arith

-- the table of names and that of the marks as the code has them
pub names_all : (h : Heads) → length h.names ≡ table_words → length (names_in h.names) ≡ name_room
names_all h long = table_length h.names long

pub ruleset rooming = (names_all, room_none, room_kept, room_some, room_filled, room_fits)
