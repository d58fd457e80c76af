-- The next card as a text, from the tables of the sheet, the texts of the card and the event line, and the marks after the step.
use Rattle.std.specs.Prelude.{ℕ, ◌==◌, Option, Some, None, List, map, length, take, drop, get_or, position}
use Rattle.meaning.specs.Text.{from}
use Rattle.meaning.specs.Number.{Entry, missing}
use Rattle.meaning.specs.Sheet.{Heads, statuses}
use Rattle.meaning.specs.Write.{card_text}
use Rattle.marks.specs.Codes.{is_yes}
use Rattle.case_tables.specs.declared.Card.{Card}
use Rattle.case_tables.specs.declared.Happening.{Happening}

-- a part of a text
abbrev pub part : List ℕ → ℕ → ℕ → List ℕ
part s start len = take len (drop start s)

-- where a field stands first among those that an event carries
abbrev pub carried_in : ℕ → List ℕ → Option ℕ
carried_in f fs = position (λ x. x == f) fs

-- the text of a field: that of the event line where the event carries it, otherwise that of the card
abbrev pub shown_by : List ℕ → List ℕ → Happening → Card → ℕ → Option ℕ → List ℕ
shown_by event card e c f (Some i) = part event (get_or e.starts i 0) (get_or e.lengths i 0)
shown_by event card e c f None = part card (get_or c.starts f 0) (get_or c.lengths f 0)

-- "a field's value text is that of the event line if the event carries it, otherwise that of the card"
unfoldable pub value_text : List ℕ → List ℕ → Happening → Card → ℕ → List ℕ
value_text event card e c f = shown_by event card e c f (carried_in f (take e.count e.fields))

-- an entry with this text; its value is not written
abbrev pub showing : List ℕ → Entry
showing t = record { shown = t; value = missing }

-- the next card
unfoldable pub next_text : Heads → List ℕ → List ℕ → Happening → Card → List ℕ → List ℕ
next_text hd event card e c marks =
    card_text hd (map (λ f. showing (value_text event card e c f)) (from 0 (length hd.fields))) (map is_yes (take (length (statuses hd)) marks))
