-- The table of no rules: 128 rows that are none.
use mathlib.Core.Path.{refl}
use Rattle.meaning.specs.Text.{joined}
use Rattle.meaning.specs.Sheet.{leaves}
use Rattle.theory.specs.Lists.Padded.{padded}
use Rattle.sheet_tables.specs.Rules.{as_rules, as_rows, all_words}
use Rattle.sheet_tables.proofs.no_rules.Goals as goal

pub returns : goal.returns
unfolding as_rules as_rows all_words padded leaves joined
returns c = refl
