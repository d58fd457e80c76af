-- `name::no_names` answers the table of no names, which is blank throughout.
use borrow.Author.Rules.{rules}
use Rattle.name.proofs.Tables.{tabling}
use Rattle.name.proofs.no_names.Goals as goal

pub returns : goal.returns
returns c = search (rules, tabling)
