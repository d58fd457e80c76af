-- What the parts of the reader answer: the lines of the fields and of the statuses, the stage under a parent that is no.
use Rattle.std.specs.Prelude.{ℕ, Bool, List, map, drop, Result, Option, Some, None}
use Rattle.std.proofs.Math.Option.{none, some}
use Rattle.std.proofs.Math.Option.{Option as Maybe}
use Rattle.meaning.specs.Limits.{field_limit, status_limit}
use Rattle.meaning.specs.Reading.{each}
use Rattle.meaning.specs.Name.{Name}
use Rattle.meaning.specs.Number.{Entry}
use Rattle.meaning.specs.Card.{field_entry, status_mark, ended, field_line}
use Rattle.theory.specs.Lists.Padded.{padded}
use Rattle.theory.specs.Reading.Piece.{as_lines}
use Rattle.reply.specs.declared.Wrong.{Wrong}
use Rattle.reply.specs.Faults.{wrong_of}
use Rattle.marks.specs.Codes.{mark_code}
use Rattle.case_tables.specs.Cards.{value_places, value_codes, text_lengths}
use Rattle.card_read.specs.declared.FieldsRead.{FieldsRead}
use Rattle.card_read.specs.declared.MarksRead.{MarksRead}

-- the tables of these entries, the first of whose lines begins at place p; the place n behind the last
abbrev pub as_fields : ℕ → List Name → List Entry → ℕ → FieldsRead
as_fields p ns es n =
    record { at = n; values = value_codes es; starts = padded field_limit 0 (value_places p ns es); lengths = text_lengths es }

-- the lines of the fields with these names, from the place p of s on
abbrev pub fields_from : List Name → ℕ → List ℕ → Result FieldsRead Wrong
fields_from ns p s = as_lines (λ es l n. as_fields p ns es n) wrong_of s (each (λ n. ended (field_entry n)) ns (field_line 0) (drop p s))

-- the table of these statuses; the place n behind the last
abbrev pub as_marks : List Bool → ℕ → MarksRead
as_marks bs n = record { at = n; marks = padded status_limit 0 (map mark_code bs) }

-- the lines of the statuses with these names, from the place p of s on; the first of them is line l
abbrev pub marks_from : List Name → ℕ → ℕ → List ℕ → Result MarksRead Wrong
marks_from ns p l s = as_lines (λ bs l n. as_marks bs n) wrong_of s (each (λ n. ended (status_mark n)) ns l (drop p s))

-- the place of a stage, if there is one
abbrev pub as_orphan : Maybe ℕ → Option ℕ
as_orphan none = None
as_orphan (some x) = Some x
