-- A card as it is written is read back. So a step's result is again an accepted card.
use Rattle.std.specs.Prelude.{ℕ, suc, ◌+◌, ◌*◌, ◌≤◌, ◌<◌, ◌≡◌, refl, Bool, true, false, List, [], ◌∷◌, ◌++◌, set}
use Rattle.std.proofs.Common.{sym, ◌∙◌, ap, append_assoc, inl, inr, ⊎_elim, suc-mul, length-append, length-set, le-leb}
use Rattle.std.proofs.Math.Option.{none}
use native.Mathlib.Omega.{arith}
use Rattle.std.proofs.Math.ListN.{length, length-map}
use Rattle.meaning.specs.Text.{In, text, begins, run}
use Rattle.meaning.specs.Refusal.{taken}
use Rattle.meaning.specs.Limits.{card_bytes, name_bytes, field_limit, status_limit}
use Rattle.meaning.specs.Reading.{Reader, got, each, not_ended, stands, due, one_of, line_end, paper}
use Rattle.meaning.specs.Name.{Name}
use Rattle.meaning.specs.Number.{Entry, end_line, decimal}
use Rattle.meaning.specs.Sheet.{Heads, Status, statuses, status_names}
use Rattle.meaning.specs.Card.{keyed, field_entry, status_mark, ended, case_line, card, orphan, read_card, Put}
use Rattle.meaning.specs.Step.{put_in}
use Rattle.meaning.specs.Write.{line, lines, mark, card_text}
use Rattle.meaning.specs.Doors.{Case}
use Rattle.theory.specs.Lists.Members.{in_cases, map_in, set_in}
use Rattle.theory.specs.Papers.Names.{Good, good_short, due_name_again}
use Rattle.theory.specs.Papers.Formed.{Each, WellHeads}
use Rattle.theory.specs.Papers.Entries.{Shown, Proper}
use Rattle.theory.specs.Papers.Counts.{end_line_again, decimal_short}
use Rattle.theory.specs.Papers.Cards.{PutIn}
use Rattle.theory.specs.Papers.Case.{Papers}

-- LINE BY LINE

-- a line, and what stands behind it
line_parts : (n v t : List ℕ) → line n v ++ t ≡ n ++ (61 ∷ (v ++ 10 ∷ t))
unfolding line
line_parts n v t = simp append_assoc

-- a field's line
field_line_lem : (n : Name) (e : Entry) → Good n → Shown e → (l : ℕ) (t : List ℕ) → ended (field_entry n) l (line n e.shown ++ t) ≡ got e (suc l) t
unfolding ended field_entry keyed due not_ended stands begins run line_end
field_line_lem n e g s l t = rw (line_parts n e.shown t, due_name_again n (61 ∷ (e.shown ++ 10 ∷ t)) l g refl, s l t)

-- a status's line
status_line_lem : (n : Name) (b : Bool) → Good n → (l : ℕ) (t : List ℕ) → ended (status_mark n) l (line n (mark b) ++ t) ≡ got b (suc l) t
unfolding ended status_mark keyed one_of due not_ended stands begins run line_end
status_line_lem n true g l t = rw (line_parts n (mark true) t, due_name_again n (61 ∷ (mark true ++ 10 ∷ t)) l g refl)
status_line_lem n false g l t = rw (line_parts n (mark false) t, due_name_again n (61 ∷ (mark false ++ 10 ∷ t)) l g refl)

-- each line of a list
lines_again : {A : Type 0} (shown : A → List ℕ) (r : Name → Reader A) (ns : List Name) (vs : List A) → length vs ≡ length ns
    → ((n : Name) → In n ns → (v : A) → In v vs → (l : ℕ) (t : List ℕ) → r n l (line n (shown v) ++ t) ≡ got v (suc l) t)
    → (l : ℕ) (t : List ℕ) → (k : ℕ) × (each r ns l (lines shown ns vs ++ t) ≡ got vs k t)
unfolding each lines
lines_again shown r [] [] e h l t = (l, refl)
lines_again shown r [] (v ∷ vs) e h l t = absurd (omega arith)
lines_again shown r (n ∷ ns) [] e h l t = absurd (omega arith)
lines_again shown r (n ∷ ns) (v ∷ vs) e h l t =
    let (k, q) = lines_again shown r ns vs (omega arith) (λ m i w j. h m (inr i) w (inr j)) (suc l) t in
    (k, rw (append_assoc (line n (shown v)) (lines shown ns vs) t, h n (inl refl) v (inl refl) l (lines shown ns vs ++ t), q))

-- THE WHOLE CARD

-- the text of a card, from piece to piece
card_parts : (m a b n : List ℕ)
    → line (text "case") m ++ a ++ b ++ line (text "end") n ≡ text "case=" ++ (m ++ 10 ∷ (a ++ (b ++ (text "end=" ++ (n ++ 10 ∷ [])))))
unfolding line
card_parts m a b n =
    let c = line (text "case") m in
    let e = line (text "end") n in
    append_assoc (c ++ a) b e ∙ append_assoc c a (b ++ e) ∙ ap (λ z. text "case=" ++ z) (append_assoc m (10 ∷ []) (a ++ (b ++ e)))

-- a card whose pieces are read
card_pieces : (hd : Heads) (es : List Entry) (bs : List Bool) (l i j : ℕ) (a b c : List ℕ) → Good hd.model
    → each (λ n. ended (field_entry n)) hd.fields (suc l) (a ++ (b ++ c)) ≡ got es i (b ++ c)
    → each (λ n. ended (status_mark n)) (status_names (statuses hd)) i (b ++ c) ≡ got bs j c
    → end_line (length es + length bs) j c ≡ got tt (suc j) []
    → card hd l (text "case=" ++ (hd.model ++ 10 ∷ (a ++ (b ++ c)))) ≡ got (record { entries = es; statuses = bs }) (suc j) []
unfolding card case_line ended due not_ended stands begins run line_end
card_pieces hd es bs l i j a b c g p q r = rw (due_name_again hd.model (10 ∷ (a ++ (b ++ c))) l g refl, p, q, r)

-- HOW LONG A CARD IS

-- the longest card: `case=` and a name, lines of a name and a number of 11 bytes, lines of a name and `yes`, and `end=` and two digits, each with its mark and
-- its LF
abbrev pub longest_card : ℕ
longest_card = name_bytes + 6 + field_limit * (name_bytes + 13) + status_limit * (name_bytes + 5) + 7

-- a line, its mark and its LF
pub line_length_lem : (n v : List ℕ) → length (line n v) ≡ length n + length v + 2
unfolding line
line_length_lem n v = omega (arith, length-append (n ++ text "=" ++ v) (text "\n"), length-append (n ++ text "=") v, length-append n (text "="))

-- lines of at most b bytes
lines_length : {A : Type 0} (shown : A → List ℕ) (b : ℕ) (ns : List Name) (vs : List A)
    → ((n : Name) → In n ns → (v : A) → In v vs → length (line n (shown v)) ≤ b) → length (lines shown ns vs) ≤ length ns * b
unfolding lines
lines_length shown b [] vs h = omega arith
lines_length shown b (n ∷ ns) [] h = omega arith
lines_length shown b (n ∷ ns) (v ∷ vs) h =
    let i = lines_length shown b ns vs (λ m i w j. h m (inr i) w (inr j)) in
    omega (arith, i, h n (inl refl) v (inl refl), suc-mul (length ns) b, length-append (line n (shown v)) (lines shown ns vs))

-- four texts in a row
four_length : (a b c d : List ℕ) → length (a ++ b ++ c ++ d) ≡ length a + length b + length c + length d
four_length a b c d = omega (arith, length-append (a ++ b ++ c) d, length-append (a ++ b) c, length-append a b)

-- a mark is short
mark_length : (b : Bool) → length (mark b) ≤ 3
mark_length true = omega arith
mark_length false = omega arith

-- what is known of a sheet whose cards are written
module _ (hd : Heads) (well : WellHeads hd) where
  -- the names of the statuses are good
  pub names_good : Each Good (status_names (statuses hd))
  unfolding status_names statuses
  names_good n i =
      let (s, j, e) = map_in (λ (s : Status). s.name) n (hd.stages ++ hd.miles) i in
      rw e (⊎_elim (λ k. (well.stages s k).name) (λ k. (well.miles s k).name) (in_cases s hd.stages hd.miles j))

  -- and as many as the statuses
  pub names_length : length (status_names (statuses hd)) ≡ length (statuses hd)
  unfolding status_names
  names_length = length-map (statuses hd) (λ (s : Status). s.name)

  module _ (es : List Entry) (bs : List Bool) (entries : length es ≡ length hd.fields) (marked : length bs ≡ length (statuses hd)) (proper : Each Proper es)
    where
      -- the lines of the fields
      fields_length : length (lines (λ (e : Entry). e.shown) hd.fields es) ≤ length hd.fields * (name_bytes + 13)
      fields_length = lines_length (λ (e : Entry). e.shown) (name_bytes + 13) hd.fields es
          (λ m i e j. omega (arith, line_length_lem m e.shown, good_short m (well.fields m i), (proper e j).short))

      -- the lines of the statuses
      marks_length : length (lines mark (status_names (statuses hd)) bs) ≤ length (status_names (statuses hd)) * (name_bytes + 5)
      marks_length = lines_length mark (name_bytes + 5) (status_names (statuses hd)) bs
          (λ m i b j. omega (arith, line_length_lem m (mark b), good_short m (names_good m i), mark_length b))

      -- there are few
      count_small : length es + length bs < 100
      count_small = omega (arith, well.fields_few, well.statuses_few)

      -- no card is longer
      pub card_length : length (card_text hd es bs) ≤ longest_card
      unfolding card_text
      card_length =
          let n = length es + length bs in
          let c = line (text "case") hd.model in
          let e = line (text "end") (decimal n) in
          let q = four_length c (lines (λ (e : Entry). e.shown) hd.fields es) (lines mark (status_names (statuses hd)) bs) e in
          let m = good_short hd.model well.model in
          let k = decimal_short n count_small in
          omega (
            arith,
            fields_length,
            marks_length,
            q,
            line_length_lem (text "case") hd.model,
            line_length_lem (text "end") (decimal n),
            m,
            k,
            names_length,
            well.fields_few,
            well.statuses_few,
          )

      -- the lines of the fields are read back
      fields_again : (l : ℕ) (t : List ℕ)
          → (k : ℕ) × (each (λ m. ended (field_entry m)) hd.fields l (lines (λ (e : Entry). e.shown) hd.fields es ++ t) ≡ got es k t)
      fields_again =
          lines_again (λ (e : Entry). e.shown) (λ m. ended (field_entry m)) hd.fields es entries
          (λ m x e y. field_line_lem m e (well.fields m x) (proper e y).shown)

      -- the lines of the statuses are read back
      marks_again : (l : ℕ) (t : List ℕ)
          → (k : ℕ) × (each (λ m. ended (status_mark m)) (status_names (statuses hd)) l (lines mark (status_names (statuses hd)) bs ++ t) ≡ got bs k t)
      marks_again =
          lines_again mark (λ m. ended (status_mark m)) (status_names (statuses hd)) bs (marked ∙ sym names_length)
          (λ m x v y. status_line_lem m v (names_good m x))

      -- the card is read back
      card_lines : (l : ℕ) → (k : ℕ) × (card hd l (card_text hd es bs) ≡ got (record { entries = es; statuses = bs }) k [])
      unfolding card_text
      card_lines l =
          let n = length es + length bs in
          let a = lines (λ (e : Entry). e.shown) hd.fields es in
          let b = lines mark (status_names (statuses hd)) bs in
          let c = text "end=" ++ (decimal n ++ 10 ∷ []) in
          let (i, p) = fields_again (suc l) (b ++ c) in
          let (j, q) = marks_again i c in
          let r = card_pieces hd es bs l i j a b c well.model p q (end_line_again n j count_small) in
          (suc j, rw (card_parts hd.model a b (decimal n)) r)

      -- a card as it is written is taken, where no stage is an orphan
      pub card_again : orphan bs 0 hd.stages ≡ none → read_card hd (card_text hd es bs) ≡ taken (record { entries = es; statuses = bs })
      unfolding read_card paper
      card_again o =
          let (k, q) = card_lines 1 in
          rw (le-leb (length (card_text hd es bs)) card_bytes (omega (arith, card_length)), q, o)

-- A STEP'S RESULT

-- as many entries as before
pub put_length : (ps : List Put) (es : List Entry) → length (put_in ps es) ≡ length es
unfolding put_in
put_length [] es = refl
put_length (p ∷ ps) es = put_length ps (set es p.field p.entry) ∙ length-set es p.field p.entry

-- each as it is read
put_proper : (m : ℕ) (ps : List Put) (es : List Entry) → Each (PutIn m) ps → Each Proper es → Each Proper (put_in ps es)
unfolding put_in
put_proper m [] es h g = g
put_proper m (p ∷ ps) es h g = put_proper m ps (set es p.field p.entry) (λ q i. h q (inr i))
    (λ e i. ⊎_elim (λ q. rw q (h p (inl refl)).proper) (g e) (set_in es p.field p.entry e i))

-- with the event's values put in there is again an entry for each field, each as it is read
pub case_entries : (k : Case) → Papers k
    → (length (put_in k.happening.puts k.card.entries) ≡ length k.sheet.heads.fields) × Each Proper (put_in k.happening.puts k.card.entries)
case_entries k p = (
  put_length k.happening.puts k.card.entries ∙ p.entries,
  put_proper (length k.sheet.heads.fields) k.happening.puts k.card.entries p.happening.puts p.proper,
)

-- the next card is accepted where its statuses are sheltered
pub next_accepted : (k : Case) → Papers k → (after : List Bool) → length after ≡ length (statuses k.sheet.heads)
    → orphan after 0 k.sheet.heads.stages ≡ none
    → read_card k.sheet.heads (card_text k.sheet.heads (put_in k.happening.puts k.card.entries) after)
    ≡ taken (record { entries = put_in k.happening.puts k.card.entries; statuses = after })
next_accepted k p after m o =
    let (e, q) = case_entries k p in card_again k.sheet.heads p.well.heads (put_in k.happening.puts k.card.entries) after e m q o
