-- The outlook: the line of a refusal, or the lines of the list that the array then holds.
use borrow.Author.Rules.{rules}
use Rattle.outlook_case.proofs.Callers.{parts_of_lem}
use Rattle.desk_output.proofs.Lines.{outlooking}
use Rattle.desk_output.proofs.put_outlook.Goals as goal

pub list_case-listed-requires : goal.list_case-listed-requires
list_case-listed-requires c = search (rules, outlooking)

pub enum_known-listed : goal.enum_known-listed
enum_known-listed c = search (rules, outlooking)

pub enum_told-1 : goal.enum_told-1
enum_told-1 c = search (rules, outlooking)

pub put_many-requires : goal.put_many-requires
put_many-requires c = search (rules, outlooking)

pub shape_of-out-in_default : goal.shape_of-out-in_default
shape_of-out-in_default c = search (rules, outlooking)

pub returns-in_default : goal.returns-in_default
returns-in_default c = search (rules, outlooking)

pub slice_bounds-patterns-end : goal.slice_bounds-patterns-end
slice_bounds-patterns-end c = search (rules, parts_of_lem)

pub slice_bounds-put_patterns-end : goal.slice_bounds-put_patterns-end
slice_bounds-put_patterns-end c = search (rules, parts_of_lem)

pub put_patterns-requires : goal.put_patterns-requires
put_patterns-requires c = search (rules, outlooking)

pub shape_of-out : goal.shape_of-out
shape_of-out c = search (rules, outlooking)

pub returns : goal.returns
returns c = search (rules, outlooking)
