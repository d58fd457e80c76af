-- What was read as the code tells it: the tables that hold the values.
use Rattle.std.specs.Prelude.{ℕ, ◌≡◌, List}
use Rattle.meaning.specs.Limits.{field_limit}
use Rattle.meaning.specs.Name.{Name}
use Rattle.meaning.specs.Number.{Entry}
use Rattle.theory.specs.Lists.Padded.{padded}
use Rattle.case_tables.specs.Cards.{value_places, value_codes, text_lengths}

-- the tables hold these entries, of the names from place p on
pub record Rows (p : ℕ) (ns : List Name) (values starts lengths : List ℕ) (es : List Entry) : Type 0 where
  pub coded : values ≡ value_codes es
  pub placed : starts ≡ padded field_limit 0 (value_places p ns es)
  pub sized : lengths ≡ text_lengths es
