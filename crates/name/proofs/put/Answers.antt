-- `name::put` stores the kept name at its place.
use borrow.Author.Rules.{rules}
use Rattle.name.proofs.Tables.{tabling}
use Rattle.name.proofs.put.Goals as goal

pub offset_bounds-names-i : goal.offset_bounds-names-i
offset_bounds-names-i c = search (rules, tabling)

pub bounds-names-i : goal.bounds-names-i
bounds-names-i c = search (rules, tabling)

pub returns : goal.returns
returns c = search (rules, tabling)
