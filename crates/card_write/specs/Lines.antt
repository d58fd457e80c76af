-- The lines of a table of names.
use Rattle.std.specs.Prelude.{ℕ, suc, ◌+◌, List, [], ◌∷◌, ◌++◌}
use Rattle.meaning.specs.Limits.{card_bytes, event_bytes}
use Rattle.meaning.specs.Name.{Name}
use Rattle.meaning.specs.Write.{line, mark}
use Rattle.name.specs.Names.{spell_room}
use Rattle.marks.specs.Codes.{yes_at}

-- the word of the status at a place
abbrev pub mark_at : List ℕ → ℕ → List ℕ
mark_at marks x = mark (yes_at marks x)

-- a line for each name, with the text of its place; the first stands at place i
unfoldable pub lines_from : (ℕ → List ℕ) → List Name → ℕ → List ℕ
lines_from t [] i = []
lines_from t (n ∷ ns) i = line n (t i) ++ lines_from t ns (suc i)

-- the most bytes of a text, whatever the tables hold: a value's text lies in one of the papers
abbrev pub text_room : ℕ
text_room = event_bytes + card_bytes

-- and of its line
abbrev pub line_room : ℕ
line_room = spell_room + text_room + 2
