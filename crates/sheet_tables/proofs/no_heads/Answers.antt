-- `sheet_tables::no_heads` answers the tables of a refused sheet: no name for the model, and the table of no names.
use borrow.Author.Rules.{rules}
use Rattle.sheet_tables.proofs.Tables.{blank_heads}
use Rattle.sheet_tables.proofs.no_heads.Goals as goal

pub no_name-model-requires : goal.no_name-model-requires
no_name-model-requires c = search (rules, blank_heads)

pub no_names-names-requires : goal.no_names-names-requires
no_names-names-requires c = search (rules, blank_heads)

pub returns : goal.returns
returns c = search (rules, blank_heads)
