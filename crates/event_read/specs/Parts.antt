-- What the parts of the reader answer: the pairs of an event line.
use Rattle.std.specs.Prelude.{ℕ, ◌+◌, List, [], map, length, drop, get_or, Result}
use Rattle.meaning.specs.Limits.{field_limit}
use Rattle.meaning.specs.Reading.{each}
use Rattle.meaning.specs.Sheet as S
use Rattle.meaning.specs.Card.{Put, put, carried_by}
use Rattle.theory.specs.Lists.Padded.{padded}
use Rattle.theory.specs.Reading.Piece.{as_lines}
use Rattle.reply.specs.declared.Wrong.{Wrong}
use Rattle.reply.specs.Faults.{wrong_of}
use Rattle.case_tables.specs.declared.Happening.{Happening}
use Rattle.case_tables.specs.Cards.{value_places, value_codes, text_lengths}
use Rattle.event_read.specs.declared.PutsRead.{PutsRead}

-- the tables of these pairs of the event, the first of which begins at place p
abbrev pub as_puts : S.Heads → ℕ → ℕ → List Put → Happening
as_puts hd event p ps =
    let entries = map (λ q. q.entry) ps in
    record {
      event = event;
      count = length ps;
      fields = padded field_limit 0 (map (λ q. q.field) ps);
      values = value_codes entries;
      starts = padded field_limit 0 (value_places (p + 1) (map (λ q. get_or hd.fields q.field []) ps) entries);
      lengths = text_lengths entries;
    }

-- the pairs for the fields that the event carries, from the place p of s on; the place behind the last
abbrev pub puts_from : S.Heads → ℕ → ℕ → List ℕ → Result PutsRead Wrong
puts_from hd event p s =
    as_lines (λ ps l n. record { at = n; happening = as_puts hd event p ps }) wrong_of s (each (put hd) (carried_by hd event) 1 (drop p s))
