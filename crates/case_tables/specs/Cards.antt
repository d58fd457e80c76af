-- The tables of a card and of an event line that were read.
use Rattle.std.specs.Prelude.{ℕ, ◌+◌, List, [], ◌∷◌, map, length, get_or, replicate}
use Rattle.meaning.specs.Text.{text}
use Rattle.meaning.specs.Limits.{field_limit, status_limit}
use Rattle.meaning.specs.Name.{Name}
use Rattle.meaning.specs.Number.{Entry}
use Rattle.meaning.specs.Sheet.{Heads, event_names}
use Rattle.meaning.specs.Card as M
use Rattle.marks.specs.Codes.{coded, mark_code}
use Rattle.theory.specs.Lists.Padded.{padded}
use Rattle.case_tables.specs.declared.Card.{Card}
use Rattle.case_tables.specs.declared.Happening.{Happening}

-- where the value texts stand, each behind its name and `=`, and one byte (LF or a space) before the next name; p is the place of the first name
unfoldable pub value_places : ℕ → List Name → List Entry → List ℕ
value_places p [] es = []
value_places p (n ∷ ns) [] = []
value_places p (n ∷ ns) (e ∷ es) = (p + length n + 1) ∷ value_places (p + length n + 1 + length e.shown + 1) ns es

-- the column of the values
abbrev pub value_codes : List Entry → List ℕ
value_codes es = padded field_limit 0 (map (λ e. coded e.value) es)

-- and of the lengths of their texts
abbrev pub text_lengths : List Entry → List ℕ
text_lengths es = padded field_limit 0 (map (λ e. length e.shown) es)

-- a card of the sheet
unfoldable pub as_card : Heads → M.Card → Card
as_card hd c = record {
  values = value_codes c.entries;
  starts = padded field_limit 0 (value_places (length (text "case=") + length hd.model + 1) hd.fields c.entries);
  lengths = text_lengths c.entries;
  marks = padded status_limit 0 (map mark_code c.statuses);
}

-- the tables of a refused card
abbrev pub no_card : Card
no_card = record { values = replicate field_limit 0; starts = replicate field_limit 0; lengths = replicate field_limit 0; marks = replicate status_limit 0 }

-- an event line of the sheet
unfoldable pub as_happening : Heads → M.Happening → Happening
as_happening hd h =
    let entries = map (λ p. p.entry) h.puts in
    record {
      event = h.event;
      count = length h.puts;
      fields = padded field_limit 0 (map (λ p. p.field) h.puts);
      values = value_codes entries;
      starts =
          padded field_limit 0 (value_places (length (get_or (event_names hd.events) h.event []) + 1)
          (map (λ p. get_or hd.fields p.field []) h.puts) entries);
      lengths = text_lengths entries;
    }

-- the tables of a refused event line
abbrev pub no_happening : Happening
no_happening =
    record {
      event = 0;
      count = 0;
      fields = replicate field_limit 0;
      values = replicate field_limit 0;
      starts = replicate field_limit 0;
      lengths = replicate
          field_limit 0;
    }
