-- Every card that is read is the text of what was read.
use Rattle.std.specs.Prelude.{ℕ, ◌+◌, ◌≡◌, refl, List, [], ◌∷◌, ◌++◌, length, eqb}
use Rattle.std.proofs.Common.{◌∙◌, ap, append-nil, arith}
use Rattle.std.proofs.Math.Option.{Option, none, some}
use Rattle.std.proofs.lemmas.List.{length-map}
use Rattle.meaning.specs.Text.{text}
use Rattle.meaning.specs.Refusal.{taken, LINE, ORPHAN}
use Rattle.meaning.specs.Limits.{card_bytes, middle}
use Rattle.meaning.specs.Reading.{Reader, each, demand, due, one_of, paper}
use Rattle.meaning.specs.Name.{Name}
use Rattle.meaning.specs.Number.{Entry, number, end_line}
use Rattle.meaning.specs.Sheet.{Heads, Status, statuses, status_names}
use Rattle.meaning.specs.Card.{Card, keyed, field_entry, status_mark, marks, ended, case_line, card, mark_line, orphan, sheltered, read_card}
use Rattle.meaning.specs.Write.{line, lines, mark, card_text}
use Rattle.theory.specs.Reading.Readers.{Yields, got_yields, bind_yields, any_yields, each_length, Holds, refused_taken, taken_holds, paper_read, on_holds}
use Rattle.theory.specs.Reading.Spelling.{Spells, give_spells, refuse_spells, choose_spells, bind_spells, knowing_spells, behind_spells, stands_spells, due_spells, line_end_spells, closed_ends, due_name_spells}
use Rattle.theory.specs.Papers.Formed.{WellHeads}
use Rattle.theory.specs.Papers.Entries.{entry_spells}
use Rattle.theory.specs.Papers.Counts.{end_line_spells}

-- THE TEXT OF EACH LINE

-- a whole line
ended_spells : {A : Type 0} {r : Reader A} {w : A → List ℕ} → Spells [] r w → Spells [] (ended r) (λ a. w a ++ text "\n")
unfolding ended
ended_spells h =
    bind_spells h λ a.
    bind_spells (line_end_spells LINE) λ x.
    give_spells refl

-- a key
keyed_spells : (n : Name) → Spells [] (keyed n) (λ x. n ++ text "=")
unfolding keyed
keyed_spells n =
    bind_spells (due_name_spells n) λ x.
    behind_spells n (due_spells LINE (text "="))

-- a field with its value
pub field_spells : (n : Name) → Spells [] (field_entry n) (λ e. n ++ text "=" ++ e.shown)
unfolding field_entry
field_spells n =
    bind_spells (keyed_spells n) λ x.
    behind_spells (n ++ text "=") entry_spells

-- a field's line
field_line_spells : (n : Name) → Spells [] (ended (field_entry n)) (λ e. line n e.shown)
unfolding line
field_line_spells n = ended_spells (field_spells n)

-- a mark
marks_spells : Spells [] (one_of LINE marks) mark
unfolding one_of
marks_spells =
    bind_spells (stands_spells (text "yes")) λ a.
    choose_spells a (λ e. give_spells (rw e)) (λ e.
    bind_spells (stands_spells (text "no")) λ b.
    choose_spells b (λ f. give_spells (rw (e, f))) (λ f. refuse_spells))

-- a status's line
status_spells : (n : Name) → Spells [] (ended (status_mark n)) (λ b. line n (mark b))
unfolding status_mark line
status_spells n = ended_spells {w = λ b. n ++ text "=" ++ mark b} (bind_spells (keyed_spells n) λ x.
    behind_spells (n ++ text "=") marks_spells)

-- each line of a list
lines_spells : {A : Type 0} (shown : A → List ℕ) (r : Name → Reader A) → ((n : Name) → Spells [] (r n) (λ v. line n (shown v))) → (ns : List Name)
    → Spells [] (each r ns) (λ vs. lines shown ns vs)
unfolding each lines
lines_spells shown r h [] = give_spells refl
lines_spells shown r h (n ∷ ns) =
    bind_spells (h n) λ v.
    bind_spells (lines_spells shown r h ns) λ vs.
    give_spells refl

-- THE TEXT OF A CARD

-- its first line
case_spells : (n : Name) → Spells [] (case_line n) (λ x. line (text "case") n)
unfolding case_line line
case_spells n =
    bind_spells (due_spells LINE (text "case=")) λ x.
    behind_spells (text "case=") (ended_spells (due_name_spells n))

-- all of it, from `case=` to `end=`
card_spells : (hd : Heads) → WellHeads hd → Spells [] (card hd) (λ c. card_text hd c.entries c.statuses)
unfolding card card_text line status_names
card_spells hd w =
    bind_spells (case_spells hd.model) λ x.
    knowing_spells (each_length (λ n. ended (field_entry n)) hd.fields)
    (lines_spells (λ (e : Entry). e.shown) (λ n. ended (field_entry n)) field_line_spells hd.fields) λ es p.
    knowing_spells (each_length (λ n. ended (status_mark n)) (status_names (statuses hd)))
    (lines_spells mark (λ n. ended (status_mark n)) status_spells (status_names (statuses hd))) λ bs q.
    bind_spells (end_line_spells (length es + length bs) (omega (
      arith,
      p,
      q,
      length-map (statuses hd)
          (λ (s : Status). s.name),
      w.fields_few,
      w.statuses_few,
    ))) λ z.
    give_spells refl

-- nothing stands behind its last line
end_line_ends : (n l : ℕ) (s : List ℕ) → Yields (end_line n l s) (λ x t. t ≡ [])
unfolding end_line
end_line_ends n l s =
    any_yields (due LINE (text "end=") l s) λ _ i a.
    any_yields (number i a) λ w j b.
    any_yields (demand LINE (eqb w.at (middle + n)) j b) λ _ k c.
    closed_ends k c

-- nor behind the card
card_ends : (hd : Heads) (l : ℕ) (s : List ℕ) → Yields (card hd l s) (λ c t. t ≡ [])
unfolding card
card_ends hd l s =
    any_yields (case_line hd.model l s) λ _ j b.
    any_yields (each (λ n. ended (field_entry n)) hd.fields j b) λ es k c.
    any_yields (each (λ n. ended (status_mark n)) (status_names (statuses hd)) k c) λ bs m d.
    bind_yields (end_line_ends (length es + length bs) m d) λ _ n t e.
    got_yields e

-- the paper is the text of the card taken from it
pub card_text_lem : (hd : Heads) → WellHeads hd → (s : List ℕ) (c : Card) → paper 2 card_bytes (card hd) s ≡ taken c → s ≡ card_text hd c.entries c.statuses
card_text_lem hd w s c e =
    let (f, (k, t, q)) = paper_read 2 card_bytes (card hd) s c e in
    ((card_spells hd w).reads 1 s).of c k t q ∙ ap (λ z. card_text hd c.entries c.statuses ++ z) ((card_ends hd 1 s).of c k t q) ∙ append-nil
    (card_text hd c.entries c.statuses)

-- and so is every card that is taken
pub read_card_text : (hd : Heads) → WellHeads hd → (s : List ℕ) → Holds (read_card hd s) (λ c. s ≡ card_text hd c.entries c.statuses)
unfolding read_card
read_card_text hd w s = on_holds P P (paper 2 card_bytes (card hd) s) _ (card_text_lem hd w s) (λ c h. go c h (orphan c.statuses 0 hd.stages))
  where
    P : Card → Type 0
    P c = s ≡ card_text hd c.entries c.statuses

    go : (c : Card) → P c → (x : Option ℕ) → Holds (sheltered hd c x) P
    go c h none = taken_holds P c h
    go c h (some x) = λ a e. absurd (refused_taken ORPHAN 2 (mark_line (length hd.fields) x) a e)
