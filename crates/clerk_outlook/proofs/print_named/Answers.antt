-- The patterns in an array of their own, then the outlook in names; or the line of a refusal.
use borrow.Author.Rules.{rules}
use Rattle.outlook_case.proofs.Callers.{parts_of_lem}
use Rattle.clerk_outlook.proofs.Laws.{naming}
use Rattle.clerk_outlook.proofs.print_named.Goals as goal

pub moment_of-moment-requires : goal.moment_of-moment-requires
moment_of-moment-requires c = search (rules, naming)

pub list_case-listed-requires : goal.list_case-listed-requires
list_case-listed-requires c = search (rules, naming)

pub enum_known-listed : goal.enum_known-listed
enum_known-listed c = search (rules, naming)

pub enum_told-1 : goal.enum_told-1
enum_told-1 c = search (rules, naming)

pub put_many-requires : goal.put_many-requires
put_many-requires c = search (rules, naming)

pub shape_of-out-in_default : goal.shape_of-out-in_default
shape_of-out-in_default c = search (rules, naming)

pub returns-in_default : goal.returns-in_default
returns-in_default c = search (rules, naming)

pub slice_bounds-patterns-end : goal.slice_bounds-patterns-end
slice_bounds-patterns-end c = search (rules, parts_of_lem)

pub slice_bounds-put_prospects-end : goal.slice_bounds-put_prospects-end
slice_bounds-put_prospects-end c = search (rules, parts_of_lem)

pub put_prospects-requires : goal.put_prospects-requires
put_prospects-requires c = search (rules, naming)

pub shape_of-out : goal.shape_of-out
shape_of-out c = search (rules, naming)

pub returns : goal.returns
returns c = search (rules, naming)
