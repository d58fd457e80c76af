-- An event line: its pairs one at a time, the event's name before them, its end behind them; and the line as a paper.
use Prim.Native.Nat.{ℕ, ◌+◌, ◌-◌, ◌*◌, ◌≤◌, ◌<◌}
use mathlib.Core.Path.{◌≡◌, refl, sym, ◌∙◌, ap}
use mathlib.Core.List.{List, [], ◌∷◌, ◌++◌, map, map-append, map-map}
use native.Mathlib.Omega.{arith}
use native.Mathlib.Nat.{add-zero}
use borrow.Author.Tests.{le-leb, lt-leb}
use lib.ListN.{length, take, drop, get_or, set, replicate, length-drop, length-map}
use lib.Seq.{get_or-drop, drop-drop}
use mir.Val.{Fits}
use mir.Syntax.{w64}
use Rattle.std.specs.Prelude.{Result, Ok, Err}
use Rattle.meaning.specs.Limits.{event_bytes, field_limit}
use Rattle.meaning.specs.Reading.{Got, got, wrong, Reader, after, give, each, closed, answered, paper}
use Rattle.meaning.specs.Name.{Name, known}
use Rattle.meaning.specs.Number.{Entry}
use Rattle.meaning.specs.Sheet as S
use Rattle.meaning.specs.Sheet.{event_names}
use Rattle.meaning.specs.Card as M
use Rattle.meaning.specs.Card.{Put, spaced, put, carried_by, happening, read_event}
use Rattle.theory.specs.Lists.Members.{map_drop}
use Rattle.theory.specs.Lists.Padded.{padded}
use Rattle.theory.specs.Reading.Built.{each_built}
use Rattle.theory.specs.Reading.BuiltPapers.{put_built}
use Rattle.theory.specs.Reading.Readers.{each_along, along_map}
use Rattle.theory.specs.Papers.Cards.{put_proper}
use Rattle.theory.specs.Reading.Answered.{Ends, here, inline_ends, Left, left_got, left_wrong}
use Rattle.theory.specs.Reading.Each.{Part, part_start, part_end, part_off, part_on}
use Rattle.theory.specs.Reading.Told.{Any, took, spelled_took}
use Rattle.theory.specs.Reading.Piece.{as_lines}
use Rattle.theory.specs.Writing.EventText.{known_spells}
use Rattle.limits.specs.Sizes.{carried_room}
use Rattle.reply.specs.declared.Fault.{Fault}
use Rattle.reply.specs.declared.Fault.TheVariants as F
use Rattle.reply.specs.declared.Wrong.{Wrong}
use Rattle.reply.specs.Faults.{wrong_of}
use Rattle.text.specs.declared.Taken.{Taken}
use Rattle.name.specs.Names.{name_of, names_in, name_at, table_words}
use Rattle.name.specs.declared.Name.{Name as Kept}
use Rattle.name.proofs.Tables.{name_at_lem, table_length}
use Rattle.name.specs.Answers.{as_known}
use Rattle.name.proofs.Callers.{known_wrong, known_got, known_place, known_fits}
use Rattle.number.specs.Answers.{as_end}
use Rattle.number.proofs.Callers.{closed_got, closed_wrong}
use Rattle.sheet_tables.specs.declared.Heads.{Heads}
use Rattle.sheet_tables.specs.Heads.{Sized, heads_of}
use Rattle.case_tables.specs.declared.Happening.{Happening}
use Rattle.case_tables.specs.Cards.{as_happening}
use Rattle.case_tables.proofs.Rows.{column_more, Laid, laid_none, laid_more}
use Rattle.card_lines.specs.declared.Shown.{Shown}
use Rattle.card_lines.specs.Answers.{as_value, on_line}
use Rattle.card_lines.proofs.Callers.{spaced_ends, Valued, value_took, value_refuses}
use Rattle.card_lines.proofs.Papers.{line_went, line_fails}
use Rattle.event_read.specs.declared.PutsRead.{PutsRead}
use Rattle.event_read.specs.Answers.{as_event_read}
use Rattle.event_read.specs.Parts.{as_puts, puts_from}
use Rattle.event_read.proofs.Sheets.{events_are, events_length, carried_length, carried_room_lem, carried_cons, field_at}

-- ONE PAIR, by the answer on the rest of the line
pub put_at : (names : List ℕ) (f i : ℕ) → i ≡ f → (d : Kept) → d ≡ name_at names i → (s t : List ℕ) (at : ℕ) → t ≡ drop at s → (r : Result Shown Fault)
    → r ≡ as_value (length (name_of d) + 2) t (spaced (name_of d) 0 t) → r ≡ as_value (length (get_or (names_in names) f []) + 2) (drop at s)
    (spaced (get_or (names_in names) f []) 0 (drop at s))
put_at names f i z d due s t at rest r is = is ∙ rw (due, name_at_lem names i, z, rest)

-- a pair of the meaning is a piece that the code reads
put_is : (hd : S.Heads) (f l : ℕ) (t : List ℕ) → put hd f l t ≡ after (spaced (get_or hd.fields f []) l t) (λ e. give (record { field = f; entry = e }))
unfolding put
put_is hd f l t = refl

-- THE PAIRS
abbrev field_of : Put → ℕ
field_of q = q.field

abbrev entry_of : Put → Entry
entry_of q = q.entry

-- the names of the fields that the event carries
abbrev field_name : Heads → ℕ → Name
field_name h f = get_or (heads_of h).fields f []

-- the tables of an event line, one by one
same_happening : {a b : ℕ} {c d e f : List ℕ} (m : Happening) → a ≡ m.event → b ≡ m.count → c ≡ m.fields → d ≡ m.values → e ≡ m.starts → f ≡ m.lengths
    → record { event = a; count = b; fields = c; values = d; starts = e; lengths = f } ≡ m
same_happening m a b c d e f = rw (a, b, c, d, e, f)

-- before pair i of as many as the event has
pub record PutsAt (h : Heads) (s : List ℕ) (e p count at : ℕ) (fields values starts lengths : List ℕ) (i : ℕ) : Type 0 where
  pub sized : Sized h
  pub one : e < h.events
  pub counted : count ≡ get_or h.carries e 0
  pub whole : length h.carried ≡ carried_room
  pub ps : List Put
  pub part : Part (put (heads_of h)) (carried_by (heads_of h) e) (each (put (heads_of h)) (carried_by (heads_of h) e) 1 (drop p s)) s 1 at i ps
  pub told : fields ≡ padded field_limit 0 (map field_of ps)
  pub laid : Laid (p + 1) (map (field_name h) (carried_by (heads_of h) e)) values starts lengths (map entry_of ps) (at + 1)

pub puts_start : (h : Heads) (s : List ℕ) (e p count : ℕ) → Sized h → e < h.events → p ≤ length s
    → length h.carried ≡ carried_room
    → count ≡ get_or h.carries e 0 → PutsAt h s e p count p (replicate field_limit 0) (replicate field_limit 0) (replicate field_limit 0)
    (replicate field_limit 0) 0
unfolding padded
puts_start h s e p count sized one l w z = record {
  sized = sized;
  one = one;
  counted = z;
  whole = w;
  ps = [];
  part = part_start _ _ s 1 p l;
  told = refl;
  laid = laid_none (p + 1) _;
}

pub count_few : (h : Heads) (e count : ℕ) → Sized h → count ≡ get_or h.carries e 0 → count ≤ field_limit
count_few h e count sized z = omega (arith, sized.few_carried e)

module _ (h : Heads) (s : List ℕ) (e p count at : ℕ) (fields values starts lengths : List ℕ) (i : ℕ)
    (g : PutsAt h s e p count at fields values starts lengths i) where
  full : length (carried_by (heads_of h) e) ≡ count
  full = rw g.counted (carried_length h g.sized e g.one g.whole)

  pub puts_done : count ≤ i
      → Ok (record {
        at = at;
        happening = record
            { event = e; count = count; fields = fields; values = values; starts = starts; lengths = lengths };
      })
      ≡ puts_from (heads_of h) e p s
  puts_done l =
      let fs = carried_by (heads_of h) e in
      let all = part_end g.part (omega (arith, full)) in
      let along = ((each_along (put_proper (heads_of h)) fs).gives 1 (drop p s)).of g.ps 1 (drop at s) all in
      let w : map (λ (q : Put). field_name h q.field) g.ps ≡ map (field_name h) fs
      = sym (map-map (field_name h) field_of g.ps) ∙ ap (map (field_name h)) (along_map _ field_of (λ q f r. r.0) g.ps fs along) in
      let counted : count ≡ length g.ps = omega (arith, full, g.part.many, g.part.few) in
      rw (all, took s at g.part.within) (ap (λ m. Ok (record { at = at; happening = m }))
      (same_happening (as_puts (heads_of h) e p g.ps) refl counted g.told g.laid.rows.coded (g.laid.rows.placed ∙ rw w) g.laid.rows.sized))

  module _ (more : i < count) where
    pub carried_place : (j : ℕ) → j ≡ field_limit * e + i → j < carried_room
    carried_place j z = omega (arith, carried_room_lem h g.sized e g.one i (omega (arith, g.counted)))

    module _ (f : ℕ) (carried : f ≡ get_or h.carried (field_limit * e + i) 0) (q : Result Shown Fault)
        (is : q ≡ as_value (length (get_or (names_in h.names) f []) + 2) (drop at s) (spaced (get_or (names_in h.names) f []) 0 (drop at s)))
        (r : Result Shown Wrong) (on : r ≡ on_line q 1) where
      field_name_lem : field_name h f ≡ get_or (names_in h.names) f []
      field_name_lem = field_at h f (omega (arith, g.sized.fields_carried e i (omega (arith, g.counted))))

      next_put : drop i (carried_by (heads_of h) e) ≡ f ∷ drop (i + 1) (carried_by (heads_of h) e)
      next_put = carried_cons h g.sized e g.one i (omega (arith, g.counted)) g.whole ∙ rw (← carried)

      pub puts_bad : (w : Wrong) → r ≡ Err w → Err w ≡ puts_from (heads_of h) e p s
      puts_bad w o =
          let i = line_fails (value_refuses _ 0 (spaced_ends _ (drop at s)) q is) 1 r on w o in
          let z : put (heads_of h) f 1 (drop at s) ≡ wrong i.number 1 = put_is (heads_of h) f 1 (drop at s) ∙ rw (field_name_lem, i.reads) in
          rw (i.is, part_off g.part f next_put (drop at s) refl i.number 1 z)

      module _ (v : Shown) (o : r ≡ Ok v) where
        value : Valued here (length (get_or (names_in h.names) f []) + 2) (spaced (get_or (names_in h.names) f [])) (drop at s) v (v.start + v.length)
        value = value_took _ 0 (spaced_ends _ (drop at s)) q is v _ (line_went q 1 r on v o) (omega arith)

        fits : at + v.start + v.length ≤ length s
        fits = omega (arith, value.within, length-drop at s, g.part.within)

        pub puts_room : length s ≤ event_bytes → (j : ℕ) → j ≡ at + v.start → Fits w64 j
        puts_room l j z = omega (arith, fits)

        pub puts_room_2 : length s ≤ event_bytes → (j : ℕ) → j ≡ at + v.start + v.length → Fits w64 j
        puts_room_2 l j z = omega (arith, fits)

        pub puts_more : (start at' i' : ℕ) → start ≡ at + v.start → at' ≡ start + v.length → i' ≡ i + 1
            → PutsAt h s e p count at' (set fields i f) (set values i v.value) (set starts i start) (set lengths i v.length) i'
        puts_more start at' i' begin x y =
            let fs = carried_by (heads_of h) e in
            let a : Put = record { field = f; entry = value.entry } in
            let few = count_few h e count g.sized g.counted in
            let many = length-map g.ps entry_of ∙ g.part.many in
            let long : length (map (field_name h) fs) ≡ length fs = length-map fs (field_name h) in
            let w : put (heads_of h) f 1 (drop at s) ≡ got a 1 (drop (v.start + v.length) (drop at s)) = put_is (heads_of h) f 1 (drop at s)
            ∙ rw (field_name_lem, value.is 1) in
            let name : get_or (map (field_name h) fs) i [] ≡ field_name h f = rw (
              ← add-zero i,
              ← get_or-drop i (map (field_name h) fs) 0 [],
              map_drop
                  (field_name h) i fs,
              next_put,
            ) in
            let c : length (get_or (map (field_name h) fs) i []) + 2 ≡ v.start = rw (name, field_name_lem) (sym value.place) in
            record {
              sized = g.sized;
              one = g.one;
              counted = g.counted;
              whole = g.whole;
              ps = g.ps ++ (a ∷ []);
              part = part_on g.part f next_put (drop at s) refl a (v.start + v.length) at' i' 1 value.within w (omega arith) y;
              told = column_more field_of field_limit fields g.ps a i f g.told g.part.many (omega arith) refl;
              laid = rw (map-append entry_of g.ps (a ∷ []))
                  (laid_more g.laid i many (omega arith) (omega (arith, full)) value.entry v.value start v.length (at' + 1) value.value value.size (omega arith)
                  (omega arith));
            }

pub ruleset putting = (puts_start, count_few, puts_done, carried_place, puts_bad, puts_room, puts_room_2, puts_more)

-- WHAT THE CODE ANSWERED, where a piece is the next of the reading x of s
record Given {A B C : Type 0} (good : A → ℕ → ℕ → B) (x : Got C) (r : Reader A) (f : A → Reader C) (l at : ℕ) (s : List ℕ) (b : B) : Type 0 where
  pub value : A
  pub bytes : ℕ
  pub same : b ≡ good value l (at + bytes)
  pub reads : r l (drop at s) ≡ got value l (drop bytes (drop at s))
  pub left : Left x (f value) l (at + bytes) s

record Lost {E C : Type 0} (bad : ℕ → ℕ → E) (x : Got C) (l : ℕ) (e : E) : Type 0 where
  pub number : ℕ
  pub is : e ≡ bad number l
  pub told : x ≡ wrong number l

module _ {A B C E : Type 0} (good : A → ℕ → ℕ → B) (bad : ℕ → ℕ → E) {r : Reader A} (ends : (u : List ℕ) → Ends here (λ a n. Any a) r u) {x : Got C}
    (f : A → Reader C) {l at : ℕ} {s : List ℕ} (left : Left x (λ l s. after (r l s) f) l at s) (v : Result B E)
    (is : v ≡ as_lines good bad s (r l (drop at s))) where
  piece_given : (b : B) → v ≡ Ok b → Given good x r f l at s b
  piece_given b z = go (ends (drop at s))
    where
      go : Ends here (λ a n. Any a) r (drop at s) → Given good x r f l at s b
      go (Ends.faulty k e) = let y : ◌≡◌ {A = Result B E} (Ok b) (Err (bad k l)) = sym z ∙ is ∙ rw (e l) in cc
      go (Ends.found a n p h e) =
          let o : Left x (f a) l (at + n) s = left_got r f left a l n h (e l) in
          let y : ◌≡◌ {A = Result B E} (Ok b) (Ok (good a l (at + n))) = sym z ∙ is ∙ rw (e l, drop-drop n at s, took s (at + n) o.within) in
          record { value = a; bytes = n; same = cc; reads = e l; left = o }

  piece_lost : (d : E) → v ≡ Err d → Lost bad x l d
  piece_lost d z = go (ends (drop at s))
    where
      go : Ends here (λ a n. Any a) r (drop at s) → Lost bad x l d
      go (Ends.faulty k e) =
          let y : ◌≡◌ {A = Result B E} (Err d) (Err (bad k l)) = sym z ∙ is ∙ rw (e l) in
          record { number = k; is = cc; told = left_wrong r f left k (e l) }
      go (Ends.found a n p h e) =
          let y : ◌≡◌ {A = Result B E} (Err d) (Ok (good a l (length s - length (drop n (drop at s))))) = sym z ∙ is ∙ rw (e l) in cc

-- THE EVENT'S NAME
abbrev event_table : Heads → List Name
event_table h = take (h.fields + h.events - h.fields) (drop h.fields (names_in h.names))

pub events_held : (h : Heads) → Sized h → length h.names ≡ table_words
    → h.fields + h.events ≤ length (names_in h.names)
events_held h sized long = omega (arith, table_length h.names long, sized.few_fields, sized.few_events)

pub events_room : (h : Heads) → Sized h → (j : ℕ) → j ≡ h.fields + h.events → Fits w64 j
events_room h sized j z = omega (arith, sized.few_fields, sized.few_events)

pub event_known : (h : Heads) → h.fields + h.events ≤ length (names_in h.names) → (s : List ℕ) (k : Result (Taken ℕ) Fault)
    → k ≡ as_known s (known (event_table h) 0 s)
    → k ≡ as_known s (known (event_names (heads_of h).events) 0 s)
event_known h few s k is = is ∙ (let z : h.fields + h.events - h.fields ≡ h.events = omega arith in rw (events_are h few, z))

pub ruleset naming = (events_held, events_room, event_known)

-- THE LINE
abbrev line_of : Heads → List ℕ → Result Happening Wrong
line_of h s = as_event_read (heads_of h) (answered 3 (happening (heads_of h) 1 s))

line_off : (h : Heads) (s : List ℕ) (n l : ℕ) → happening (heads_of h) 1 s ≡ wrong n l → (w : Wrong) → w ≡ wrong_of n l → Err w ≡ line_of h s
line_off h s n l e w z = rw (z, e)

module _ (h : Heads) (s : List ℕ) (k : Result (Taken ℕ) Fault) (is : k ≡ as_known s (known (event_names (heads_of h).events) 0 s))
    (r : Result (Taken ℕ) Wrong) (on : r ≡ on_line k 1) where
  abbrev names : List Name
  names = event_names (heads_of h).events

  abbrev pairs : ℕ → Reader (List Put)
  pairs e = each (put (heads_of h)) (carried_by (heads_of h) e)

  abbrev behind_pairs : ℕ → List Put → Reader M.Happening
  behind_pairs e ps l s = after (closed l s) (λ _. give (record { event = e; puts = ps }))

  pub line_nameless : (w : Wrong) → r ≡ Err w → Err w ≡ line_of h s
  unfolding happening
  line_nameless w o =
      let f = line_fails (known_wrong k names s is) 1 r on w o in
      line_off h s f.number 1 (rw f.reads) w f.is

  module _ (v : Taken ℕ) (o : r ≡ Ok v) where
    named : k ≡ Ok v
    named = line_went k 1 r on v o

    pub event_within : v.bytes ≤ length s
    event_within = known_fits k names s is v named

    pub event_one : v.value < h.events
    event_one = rw (events_length h) at (known_place k names s is v named)

    name_left : Left (happening (heads_of h) 1 s) (λ l s. after (pairs v.value l s) (behind_pairs v.value)) 1 v.bytes s
    unfolding happening
    name_left = record { within = event_within; is = rw (known_got k names s is v named 1) }

    pairs_end : (u : List ℕ) → Ends here (λ a n. Any a) (pairs v.value) u
    pairs_end = inline_ends (each_built (put_built (heads_of h)) (carried_by (heads_of h) v.value))

    module _ (p : Result PutsRead Wrong) (puts : p ≡ puts_from (heads_of h) v.value v.bytes s) where
      abbrev put_down : List Put → ℕ → ℕ → PutsRead
      put_down ps l n = record { at = n; happening = as_puts (heads_of h) v.value v.bytes ps }

      pub line_putless : (w : Wrong) → p ≡ Err w → Err w ≡ line_of h s
      line_putless w i =
          let f = piece_lost put_down wrong_of pairs_end (behind_pairs v.value) name_left p puts w i in
          line_off h s f.number 1 f.told w f.is

      module _ (b : PutsRead) (i : p ≡ Ok b) where
        paired : Given put_down (happening (heads_of h) 1 s) (pairs v.value) (behind_pairs v.value) 1 v.bytes s b
        paired = piece_given put_down wrong_of pairs_end (behind_pairs v.value) name_left p puts b i

        abbrev whole : M.Happening
        whole = record { event = v.value; puts = paired.value }

        at_is : b.at ≡ v.bytes + paired.bytes
        at_is = ap (λ b. b.at) paired.same

        placed : v.bytes ≡ length (get_or names v.value [])
        placed = spelled_took (known_spells names) 0 s v.value 0 v.bytes event_within (known_got k names s is v named 0)

        whole_held : b.happening ≡ as_happening (heads_of h) whole
        unfolding as_happening
        whole_held = ap (λ b. b.happening) paired.same ∙ ap (λ p. as_puts (heads_of h) v.value p paired.value) placed

        module _ (u : List ℕ) (rest : u ≡ drop b.at s) (q : Result (Unit {0}) Wrong) (last : q ≡ as_end (closed 0 u)) where
          line_left : happening (heads_of h) 1 s ≡ after (closed 1 u) (λ _. give whole)
          line_left = paired.left.is ∙ rw (← at_is, ← rest)

          pub line_unended : (w : Wrong) → q ≡ Err w → (j : ℕ) → j ≡ 1 + w.line → Err (record { fault = w.fault; line = j }) ≡ line_of h s
          line_unended w x j y =
              let f = closed_wrong u q last w x in
              line_off h s f.number j (line_left ∙ rw (f.reads 1, ← y)) _ (ap (λ f. record { fault = f; line = j }) (ap (λ w. w.fault) f.is))

          pub line_read_lem : (m : Happening) → m ≡ b.happening → (x : Unit {0}) → q ≡ Ok x → Ok m ≡ line_of h s
          line_read_lem m y x z = ap Ok (y ∙ whole_held) ∙ sym (rw (line_left, closed_got u q last x z 1))

pub line_room : (u : List ℕ) (q : Result (Unit {0}) Wrong) → q ≡ as_end (closed 0 u) → (w : Wrong) → q ≡ Err w → (j : ℕ) → j ≡ 1 + w.line → Fits w64 j
line_room u q last w e j z = omega (arith, (closed_wrong u q last w e).next)

pub ruleset event_lining = (line_nameless, event_within, event_one, line_putless, line_unended, line_read_lem, line_room)

-- AN EVENT LINE AS A PAPER
pub event_long : (h : Heads) (s : List ℕ) → event_bytes < length s
    → Err (record { fault = F.Long; line = 0 }) ≡ as_event_read (heads_of h) (read_event (heads_of h) s)
unfolding read_event paper
event_long h s l = rw (lt-leb (length s) event_bytes l)

pub event_short : (h : Heads) (s : List ℕ) (r : Result Happening Wrong) → length s ≤ event_bytes → r ≡ line_of h s
    → r ≡ as_event_read (heads_of h) (read_event (heads_of h) s)
unfolding read_event paper
event_short h s r l e = e ∙ rw (le-leb (length s) event_bytes l)

pub ruleset event_papering = (event_long, event_short)
