-- The card before anything was asked, as tables: every field shows the first byte of the card's text, and no status is yes.
use Rattle.std.specs.Prelude.{replicate}
use Rattle.meaning.specs.Limits.{field_limit, status_limit}
use Rattle.case_tables.specs.declared.Card.{Card}

abbrev pub unasked_card : Card
unasked_card = record {
  values = replicate field_limit 0;
  starts = replicate field_limit 0;
  lengths = replicate field_limit 1;
  marks = replicate status_limit 0;
}
