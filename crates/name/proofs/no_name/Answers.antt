-- `name::no_name` answers no name as it is kept.
use borrow.Author.Rules.{rules}
use Rattle.name.proofs.Tables.{tabling}
use Rattle.name.proofs.no_name.Goals as goal

pub returns : goal.returns
returns c = search (rules, tabling)
