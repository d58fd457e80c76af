-- A card from its first line to its last, its first orphan, and the card as a paper.
use Prim.Native.Nat.{ℕ, ◌+◌, ◌≤◌, ◌<◌}
use mathlib.Core.Path.{◌≡◌, refl, sym, ◌∙◌, ap}
use mathlib.Core.Bool.{Bool}
use mathlib.Core.List.{List}
use mathlib.Core.Option.{Option, none, some}
use native.Mathlib.Omega.{arith}
use borrow.Author.Tests.{le-leb, lt-leb}
use lib.ListN.{length, take, drop, length-drop}
use lib.Seq.{length-take-le}
use mir.Val.{Fits}
use mir.Syntax.{w64}
use Rattle.std.specs.Prelude.{Result, Ok, Err, Some, None}
use Rattle.std.specs.Prelude.{Option as Maybe}
use Rattle.meaning.specs.Text.{text}
use Rattle.meaning.specs.Limits.{card_bytes, field_limit}
use Rattle.meaning.specs.Refusal.{taken, refused, on_taken}
use Rattle.meaning.specs.Reading.{wrong, Reader, after, give, each, answered, paper}
use Rattle.meaning.specs.Name.{Name}
use Rattle.meaning.specs.Number.{Entry, end_line}
use Rattle.meaning.specs.Sheet as S
use Rattle.meaning.specs.Sheet.{statuses, status_names}
use Rattle.meaning.specs.Card as M
use Rattle.meaning.specs.Card.{field_entry, status_mark, ended, case_line, card, field_line, mark_line, orphan, sheltered, read_card}
use Rattle.theory.specs.Reading.Answered.{Left, left_start}
use Rattle.theory.specs.Step.Shelter.{orphan_same, orphan_below}
use Rattle.theory.specs.Lists.Padded.{padded}
use Rattle.reply.specs.declared.Fault.{Fault}
use Rattle.reply.specs.declared.Fault.TheVariants as F
use Rattle.reply.specs.declared.Wrong.{Wrong}
use Rattle.reply.specs.Faults.{fault_of, wrong_of}
use Rattle.text.specs.Pieces.{as_length}
use Rattle.name.specs.Names.{name_of, names_in}
use Rattle.number.specs.Answers.{as_end}
use Rattle.number.proofs.Callers.{end_got, end_wrong}
use Rattle.sheet_tables.specs.declared.Heads.{Heads}
use Rattle.sheet_tables.specs.Heads.{Sized, names_at, heads_of}
use Rattle.sheet_tables.proofs.Names.{fields_are, statuses_are, stages_length, fields_held, statuses_held}
use Rattle.case_tables.specs.declared.Card.{Card}
use Rattle.case_tables.specs.Cards.{as_card, value_places}
use Rattle.marks.specs.Codes.{side_of}
use Rattle.card_lines.specs.Answers.{on_line}
use Rattle.card_lines.proofs.Callers.{case_ends, field_line_ends, status_ends, bytes_on, bytes_off}
use Rattle.card_lines.proofs.Papers.{line_went, line_left, wrong_is, paper_took, paper_refuses}
use Rattle.card_read.specs.declared.FieldsRead.{FieldsRead}
use Rattle.card_read.specs.declared.MarksRead.{MarksRead}
use Rattle.card_read.specs.Answers.{as_card_read}
use Rattle.card_read.specs.Parts.{as_fields, fields_from, as_marks, marks_from, as_orphan}
use Rattle.card_read.proofs.Lines.{Given, lines_on, lines_off}
use Rattle.card_read.proofs.Marks.{marks_side}

-- what is left of a card behind its statuses, and behind its fields
abbrev behind_marks : M.Card → Reader M.Card
behind_marks c l s = after (end_line (length c.entries + length c.statuses) l s) (λ _. give c)

abbrev behind_fields : S.Heads → List Entry → Reader M.Card
behind_fields hd es l s = after (each (λ n. ended (status_mark n)) (status_names (statuses hd)) l s)
    (λ ss. behind_marks (record { entries = es; statuses = ss }))

-- the answer for the lines of a card, and for one that is refused
abbrev lines_of : Heads → List ℕ → Result Card Wrong
lines_of h s = as_card_read (heads_of h) (answered 2 (card (heads_of h) 1 s))

card_off : (h : Heads) (s : List ℕ) (n l : ℕ) → card (heads_of h) 1 s ≡ wrong n l → (w : Wrong) → w ≡ wrong_of n l → Err w ≡ lines_of h s
card_off h s n l e w z = rw (z, e)

same_card : {v p n m : List ℕ} (c : Card) → v ≡ c.values → p ≡ c.starts → n ≡ c.lengths → m ≡ c.marks
    → record { values = v; starts = p; lengths = n; marks = m } ≡ c
same_card c a b d e = rw (a, b, d, e)

-- THE FIRST LINE
module _ (h : Heads) (s : List ℕ) (k : Result ℕ Fault) (case : k ≡ as_length s (case_line (name_of h.model) 0 s)) (r : Result ℕ Wrong)
    (on : r ≡ on_line k 1) where
  abbrev fields : List Name
  fields = take h.fields (names_in h.names)

  card_start : Left (card (heads_of h) 1 s) (λ l s. after (case_line (name_of h.model) l s)
      (λ _ l s. after (each (λ n. ended (field_entry n)) fields l s) (behind_fields (heads_of h)))) 1 0 s
  unfolding card heads_of names_at
  card_start = left_start (card (heads_of h)) 1 s

  pub card_caseless : (w : Wrong) → r ≡ Err w → Err w ≡ lines_of h s
  card_caseless w e =
      let o = line_left k 1 r on w e in
      let f = bytes_off (case_ends (name_of h.model)) _ card_start s refl k case w.fault o.0 in
      card_off h s f.number 1 f.told w (wrong_is w (fault_of f.number) 1 f.is o.1)

  module _ (n : ℕ) (e : r ≡ Ok n) where
    begun : (n ≡ length (name_of h.model) + 6) × Left (card (heads_of h) 1 s)
        (λ l s. after (each (λ n. ended (field_entry n)) fields l s) (behind_fields (heads_of h))) 2 n s
    begun = bytes_on (case_ends (name_of h.model)) _ card_start s refl k case n n (line_went k 1 r on n e) (omega arith)

    pub case_within : n ≤ length s
    case_within = begun.1.within

    -- THE FIELDS
    module _ (f : Result FieldsRead Wrong) (read : f ≡ fields_from fields n s) where
      pub card_fieldless : (w : Wrong) → f ≡ Err w → Err w ≡ lines_of h s
      card_fieldless w o =
          let i = lines_off (λ es l m. as_fields n fields es m) wrong_of field_line_ends fields (behind_fields (heads_of h)) begun.1 f read w o in
          card_off h s i.number i.line i.told w i.is

      module _ (g : FieldsRead) (o : f ≡ Ok g) where
        entered : Given (λ es l m. as_fields n fields es m) fields (card (heads_of h) 1 s) (behind_fields (heads_of h)) 2 s g
        entered = lines_on (λ es l m. as_fields n fields es m) wrong_of field_line_ends fields (behind_fields (heads_of h)) begun.1 f read g o

        placed : g.at ≡ entered.place
        placed = ap (λ g. g.at) entered.same

        pub fields_within : g.at ≤ length s
        fields_within = rw placed entered.left.within

        -- THE STATUSES
        module _ (few : h.fields ≤ length (names_in h.names)) (held : h.fields + h.events + (h.stages + h.miles) ≤ length (names_in h.names))
            (first : ℕ) (line : first ≡ field_line h.fields) (begin count : ℕ) (behind? : begin ≡ h.fields + h.events) (many : count ≡ h.stages + h.miles)
            (m : Result MarksRead Wrong) (marks : m ≡ marks_from (take count (drop begin (names_in h.names))) g.at first s) where
          abbrev states : List Name
          states = take count (drop begin (names_in h.names))

          abbrev behind : List Bool → Reader M.Card
          behind ss = behind_marks (record { entries = entered.value; statuses = ss })

          fields_many : length fields ≡ h.fields
          fields_many = length-take-le h.fields (names_in h.names) few

          states_many : length states ≡ count
          states_many = length-take-le count (drop begin (names_in h.names)) (omega (arith, length-drop begin (names_in h.names)))

          statuses_left : Left (card (heads_of h) 1 s) (λ l s. after (each (λ n. ended (status_mark n)) states l s) behind) first g.at s
          statuses_left =
              let z : first ≡ 2 + length fields = omega (arith, fields_many) in
              record { within = fields_within; is = entered.left.is ∙ rw (statuses_are h held, ← z, ← placed, ← behind?, ← many) }

          pub card_markless : (w : Wrong) → m ≡ Err w → Err w ≡ lines_of h s
          card_markless w e =
              let i = lines_off (λ bs l n. as_marks bs n) wrong_of status_ends states behind statuses_left m marks w e in
              card_off h s i.number i.line i.told w i.is

          module _ (v : MarksRead) (ok : m ≡ Ok v) where
            marked : Given (λ bs l n. as_marks bs n) states (card (heads_of h) 1 s) behind first s v
            marked = lines_on (λ bs l n. as_marks bs n) wrong_of status_ends states behind statuses_left m marks v ok

            abbrev whole : M.Card
            whole = record { entries = entered.value; statuses = marked.value }

            marks_at : v.at ≡ marked.place
            marks_at = ap (λ v. v.at) marked.same

            -- THE LAST LINE
            module _ (all : ℕ) (sum : all ≡ h.fields + count) (u : List ℕ) (rest : u ≡ drop v.at s) (q : Result (Unit {0}) Wrong)
                (last : q ≡ as_end (end_line all 0 u)) where
              end_left : card (heads_of h) 1 s ≡ after (end_line all (first + count) u) (λ _. give whole)
              end_left =
                  let z : length entered.value + length marked.value ≡ all = omega (arith, entered.many, marked.many, fields_many, states_many) in
                  marked.left.is ∙ rw (states_many, ← marks_at, ← rest, z)

              pub card_endless : (w : Wrong) → q ≡ Err w → (j : ℕ) → j ≡ first + count + w.line → Err (record { fault = w.fault; line = j }) ≡ lines_of h s
              card_endless w x j y =
                  let i = end_wrong all u q last w x in
                  card_off h s i.number j (end_left ∙ rw (i.reads (first + count), ← y)) _ (ap (λ f. record { fault = f; line = j }) (ap (λ w. w.fault) i.is))

              whole_held : record { values = g.values; starts = g.starts; lengths = g.lengths; marks = v.marks } ≡ as_card (heads_of h) whole
              unfolding as_card heads_of names_at
              whole_held =
                  let z : n ≡ length (text "case=") + length (name_of h.model) + 1 = omega (arith, begun.0) in
                  same_card _ (ap (λ g. g.values) entered.same)
                  (ap (λ g. g.starts) entered.same ∙ ap (λ p. padded field_limit 0 (value_places p fields entered.value)) z)
                  (ap (λ g. g.lengths) entered.same) (ap (λ v. v.marks) marked.same)

              pub card_done : (x : Unit {0}) → q ≡ Ok x
                  → Ok (record { values = g.values; starts = g.starts; lengths = g.lengths; marks = v.marks }) ≡ lines_of h s
              card_done x y = ap Ok whole_held ∙ sym (rw (end_left, end_got all u q last x y (first + count)))

pub end_room : (h : Heads) → Sized h → (all : ℕ) (u : List ℕ) (q : Result (Unit {0}) Wrong) → q ≡ as_end (end_line all 0 u) → (w : Wrong) → q ≡ Err w
    → (j : ℕ) → j ≡ field_line h.fields + (h.stages + h.miles) + w.line → Fits w64 j
end_room h sized all u q last w x j y = omega (arith, (end_wrong all u q last w x).next, sized.few_fields, sized.few_statuses)

pub count_room : (h : Heads) → Sized h → (j : ℕ) → j ≡ h.stages + h.miles → Fits w64 j
count_room h sized j z = omega (arith, sized.few_statuses)

pub first_room : (h : Heads) → Sized h → (j : ℕ) → j ≡ field_line h.fields → Fits w64 j
first_room h sized j z = omega (arith, sized.few_fields)

pub all_room : (h : Heads) → Sized h → (count j : ℕ) → count ≡ h.stages + h.miles → j ≡ h.fields + count → Fits w64 j
all_room h sized count j y z = omega (arith, sized.few_fields, sized.few_statuses)

pub last_room : (h : Heads) → Sized h → (first count j : ℕ) → first ≡ field_line h.fields → count ≡ h.stages + h.miles → j ≡ first + count → Fits w64 j
last_room h sized first count j x y z = omega (arith, sized.few_fields, sized.few_statuses)

pub line_low : (h : Heads) → Sized h → (first : ℕ) → first ≡ field_line h.fields → first ≤ field_line field_limit
line_low h sized first x = omega (arith, sized.few_fields)

pub ruleset carding = (
  fields_held,
  statuses_held,
  card_caseless,
  case_within,
  card_fieldless,
  fields_within,
  card_markless,
  card_endless,
  end_room,
  card_done,
  count_room,
  first_room,
  all_room,
  last_room,
  line_low,
)

-- ORPHANS
abbrev orphan_of : Maybe ℕ → Option ℕ
orphan_of None = none
orphan_of (Some x) = some x

orphan_back : (p : Option ℕ) → p ≡ orphan_of (as_orphan p)
orphan_back none = refl
orphan_back (some x) = refl

-- the line of a status
pub status_line_lem : (h : Heads) → h.fields ≤ length (names_in h.names) → (x l : ℕ) → l ≡ mark_line h.fields x → l ≡ mark_line (length (heads_of h).fields) x
status_line_lem h few x l e = e ∙ rw (fields_are h, length-take-le h.fields (names_in h.names) few)

pub status_room : (h : Heads) → Sized h → (x j : ℕ) → x < h.stages → j ≡ mark_line h.fields x → Fits w64 j
status_room h sized x j l e = omega (arith, sized.few_fields, sized.few_statuses)

pub ruleset lining = (fields_held, status_line_lem, status_room)

-- A CARD AS A PAPER
card_short : (hd : S.Heads) (s : List ℕ) → length s ≤ card_bytes
    → read_card hd s ≡ on_taken (answered 2 (card hd 1 s)) (λ c. sheltered hd c (orphan c.statuses 0 hd.stages))
unfolding read_card paper
card_short hd s h = rw (le-leb (length s) card_bytes h)

pub paper_long : (h : Heads) (s : List ℕ) → card_bytes < length s
    → Err (record { fault = F.Long; line = 0 }) ≡ as_card_read (heads_of h) (read_card (heads_of h) s)
unfolding read_card paper
paper_long h s l = rw (lt-leb (length s) card_bytes l)

module _ (h : Heads) (s : List ℕ) (short : length s ≤ card_bytes) (r : Result Card Wrong) (lines : r ≡ lines_of h s) where
  pub paper_refused : (w : Wrong) → r ≡ Err w → Err w ≡ as_card_read (heads_of h) (read_card (heads_of h) s)
  paper_refused w e = go (paper_refuses (as_card (heads_of h)) (λ n p l. wrong_of n l) (answered 2 (card (heads_of h) 1 s)) r lines w e)
    where
      go : (n : ℕ) × (p : ℕ) × (l : ℕ) × (answered 2 (card (heads_of h) 1 s) ≡ refused n p l) × (w ≡ wrong_of n l)
          → Err w ≡ as_card_read (heads_of h) (read_card (heads_of h) s)
      go (n, p, l, x, y) = rw (y, card_short (heads_of h) s short, x)

  module _ (c : Card) (e : r ≡ Ok c) where
    card_is : (a : M.Card) × (answered 2 (card (heads_of h) 1 s) ≡ taken a) × (c ≡ as_card (heads_of h) a)
    card_is = paper_took (as_card (heads_of h)) (λ n p l. wrong_of n l) _ r lines c e

    abbrev read : M.Card
    read = card_is.0

    module _ (o : Maybe ℕ) (first : o ≡ as_orphan (orphan (side_of c.marks) 0 (heads_of h).stages)) where
      judged : orphan read.statuses 0 (heads_of h).stages ≡ orphan_of o
      unfolding as_card
      judged =
          let same = marks_side c.marks read.statuses (ap (λ a. a.marks) card_is.2) in
          sym (orphan_same (side_of c.marks) read.statuses same 0 (heads_of h).stages) ∙ orphan_back _ ∙ ap orphan_of (sym first)

      sheltered_is : read_card (heads_of h) s ≡ sheltered (heads_of h) read (orphan_of o)
      sheltered_is = card_short (heads_of h) s short ∙ rw (card_is.1, judged)

      pub paper_good : o ≡ None → Ok c ≡ as_card_read (heads_of h) (read_card (heads_of h) s)
      paper_good z = ap Ok card_is.2 ∙ sym (rw (sheltered_is, z))

      module _ (x : ℕ) (z : o ≡ Some x) where
        pub orphan_stage : x < h.stages
        orphan_stage =
            omega (arith, orphan_below (side_of c.marks) (heads_of h).stages 0 x (orphan_back _ ∙ ap orphan_of (sym first ∙ z)), stages_length h)

        pub paper_orphan : (l : ℕ) → l ≡ mark_line (length (heads_of h).fields) x
            → Err (record { fault = F.Orphan; line = l }) ≡ as_card_read (heads_of h) (read_card (heads_of h) s)
        paper_orphan l y = rw y (sym (rw (sheltered_is, z)))

pub ruleset papering = (paper_long, paper_refused, paper_good, orphan_stage, paper_orphan)
