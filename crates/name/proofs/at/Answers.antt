-- `name::at` answers the kept name at a place, and none where the place lies behind the last.
use borrow.Author.Rules.{rules}
use Rattle.name.proofs.Tables.{tabling}
use Rattle.name.proofs.at.Goals as goal

pub no_name-requires : goal.no_name-requires
no_name-requires c = search (rules, tabling)

pub returns-then-names-i : goal.returns-then-names-i
returns-then-names-i c = search (rules, tabling)

pub offset_bounds-names-i : goal.offset_bounds-names-i
offset_bounds-names-i c = search (rules, tabling)

pub bounds-names-i : goal.bounds-names-i
bounds-names-i c = search (rules, tabling)

pub returns : goal.returns
returns c = search (rules, tabling)
