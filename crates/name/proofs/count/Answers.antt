-- `name::count` answers how many names the table has: one for each place.
use borrow.Author.Rules.{rules}
use Rattle.name.proofs.Tables.{tabling}
use Rattle.name.proofs.count.Goals as goal

pub returns : goal.returns
returns c = search (rules, tabling)
