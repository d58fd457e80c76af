-- The lines of a table of names, written and measured one by one, and how long their texts are.
use mathlib.Core.Path.{◌≡◌, ap}
use mathlib.Core.Bool.{Bool, true, false}
use mathlib.Core.List.{List, [], ◌++◌}
use Prim.Native.Nat.{ℕ, ◌+◌, ◌*◌, ◌<◌, ◌≤◌}
use native.Mathlib.Omega.{arith}
use native.Mathlib.Numerals.{add-one}
use lib.ListN.{length, drop, take, get_or, length-drop, length-append, length-take, drop_of_length-le}
use lib.Seq.{drop-cons}
use Rattle.std.specs.Prelude.{Option, Some, None}
use Rattle.meaning.specs.Limits.{card_bytes, event_bytes}
use Rattle.meaning.specs.Write.{line, mark}
use Rattle.theory.specs.Writing.ReadBack.{line_length_lem}
use Rattle.name.specs.declared.Name.{Name as Kept}
use Rattle.name.specs.Names.{name_of, names_in, name_at, spell_room}
use Rattle.name.proofs.Tables.{name_at_lem}
use Rattle.marks.specs.Codes.{is_yes}
use Rattle.case_tables.specs.declared.Card.{Card}
use Rattle.case_tables.specs.declared.Happening.{Happening}
use Rattle.theory.specs.Writing.Lent.{Wrote, Left, left_start, left_room, left_more, left_end, left_long}
use Rattle.card_write.specs.Texts.{shown_by, carried_in, value_text}
use Rattle.card_write.specs.Lines.{mark_at, lines_from, text_room, line_room}

-- LINES: one for each name of a table, with the text of its place
module _ (t : ℕ → List ℕ) (names : List ℕ) where
  abbrev rows_from : ℕ → List ℕ
  rows_from i = lines_from t (drop i (names_in names)) i

  -- before line i the lines of the names before it stand in the space, and those of the rest are left
  abbrev pub LinesLeft : ℕ → List ℕ → ℕ → ℕ → List ℕ → Type 0
  LinesLeft at₀ o₀ at i o = Left at₀ (lines_from t (names_in names) 0) o₀ at (rows_from i) o

  -- the lines measured and those left are as long as all, and each is within its room
  abbrev pub LinesMeasured : ℕ → ℕ → Type 0
  LinesMeasured i k = (k ≤ i * line_room) × (k + length (rows_from i) ≡ length (lines_from t (names_in names) 0))

  rows_over : (i : ℕ) → length (names_in names) ≤ i → rows_from i ≡ []
  unfolding lines_from
  rows_over i h = rw (drop_of_length-le (names_in names) h)

  rows_step : (i : ℕ) (w : Kept) (v : List ℕ) → i < length (names_in names) → w ≡ name_at names i → v ≡ t i
      → rows_from i ≡ line (name_of w) v ++ rows_from (i + 1)
  unfolding lines_from
  rows_step i w v h e q = rw (add-one, drop-cons (names_in names) i [] h, e, name_at_lem names i, q)

  module _ (n : ℕ) (many : n ≡ length (names_in names)) where
    -- written
    module _ (at₀ : ℕ) (o₀ : List ℕ) (at i : ℕ) (o : List ℕ) (l : Left at₀ (lines_from t (names_in names) 0) o₀ at (rows_from i) o) where
      pub rows_end : n ≤ i → Wrote at₀ (lines_from t (names_in names) 0) o₀ o at
      rows_end h = left_end at₀ _ o₀ at (rows_from i) o l (rows_over i (omega arith))

      module _ (w : Kept) (v : List ℕ) (here : i < n) (due : w ≡ name_at names i) (text : v ≡ t i) where
        pub rows_room : at + length (line (name_of w) v) ≤ length o
        rows_room = left_room at₀ _ o₀ at (rows_from i) o l (line (name_of w) v) (rows_from (i + 1)) (rows_step i w v (omega arith) due text)

        pub rows_more : (o1 : List ℕ) (b : ℕ) → Wrote at (line (name_of w) v) o o1 b → (j : ℕ) → j ≡ i + 1
            → Left at₀ (lines_from t (names_in names) 0) o₀ b (rows_from j) o1
        rows_more o1 b y j z =
            rw z (left_more at₀ _ o₀ at (rows_from i) o l (line (name_of w) v) (rows_from (i + 1)) (rows_step i w v (omega arith) due text) o1 b y)

    -- measured
    module _ (k i : ℕ) (inv : k + length (rows_from i) ≡ length (lines_from t (names_in names) 0)) where
      pub rows_measured : n ≤ i → k ≡ length (lines_from t (names_in names) 0)
      rows_measured h = omega (arith, ap length (rows_over i (omega arith)))

      module _ (w : Kept) (v : List ℕ) (m : ℕ) where
        pub rows_add : m ≡ length (name_of w) → v ≡ t i → i < n → w ≡ name_at names i → (j a : ℕ) → j ≡ i + 1 → a ≡ k + m + length v + 2
            → a + length (rows_from j) ≡ length (lines_from t (names_in names) 0)
        rows_add e text here due j a z y =
            rw z (omega (
              arith,
              line_length_lem (name_of w) v,
              ap length (rows_step i w v (omega arith) due text),
              length-append (line (name_of w) v)
                  (rows_from (i + 1)),
            ))

        -- within their room, as the texts are
        pub rows_bound : ((x : ℕ) → length (t x) ≤ text_room) → v ≡ t i → m ≤ spell_room → k ≤ i * line_room → (j a : ℕ) → j ≡ i + 1
            → a ≡ k + m + length v + 2
            → a ≤ j * line_room
        rows_bound short text q p j a z y = omega (arith, short i, ap length text)

-- THE TEXTS are short: a field's lies in one of the papers
pub value_short : (event card : List ℕ) (e : Happening) (c : Card) → length event ≤ event_bytes → length card ≤ card_bytes → (f : ℕ)
    → length (value_text event card e c f) ≤ text_room
unfolding value_text
value_short event card e c h g f = go (carried_in f (take e.count e.fields))
  where
    go : (x : Option ℕ) → length (shown_by event card e c f x) ≤ event_bytes + card_bytes
    go (Some i) = omega (arith, length-take (get_or e.lengths i 0) (drop (get_or e.starts i 0) event), length-drop (get_or e.starts i 0) event)
    go None = omega (arith, length-take (get_or c.lengths f 0) (drop (get_or c.starts f 0) card), length-drop (get_or c.starts f 0) card)

pub mark_short : (marks : List ℕ) (x : ℕ) → length (mark_at marks x) ≤ text_room
mark_short marks x = go (is_yes (get_or marks x 0))
  where
    go : (b : Bool) → length (mark b) ≤ event_bytes + card_bytes
    go true = omega arith
    go false = omega arith

pub ruleset writing = (left_start, rows_room, rows_more, rows_end, left_long)

pub ruleset measuring = (rows_add, rows_bound, rows_measured)
