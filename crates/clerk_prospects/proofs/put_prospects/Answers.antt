-- The part of the tables that holds the names of the statuses.
use borrow.Author.Rules.{rules}
use Rattle.clerk_prospects.proofs.Laws.{between}
use Rattle.clerk_prospects.proofs.put_prospects.Goals as goal

pub overflow_add-first : goal.overflow_add-first
overflow_add-first c = search (rules, between)

pub overflow_add-count : goal.overflow_add-count
overflow_add-count c = search (rules, between)

pub slice_bounds-part-end : goal.slice_bounds-part-end
slice_bounds-part-end c = search (rules, between)

pub part-requires : goal.part-requires
part-requires c = search (rules, between)

pub put_lines-requires : goal.put_lines-requires
put_lines-requires c = search (rules, between)

pub shape_of-out : goal.shape_of-out
shape_of-out c = search (rules, between)

pub returns : goal.returns
returns c = search (rules, between)
