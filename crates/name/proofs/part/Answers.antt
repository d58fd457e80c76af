-- `name::part` answers the part of the table: from `from` up to `from + n` it has `n` places.
use borrow.Author.Rules.{rules}
use Rattle.name.proofs.Tables.{tabling, part_fits}
use Rattle.name.proofs.part.Goals as goal

pub overflow_add-result : goal.overflow_add-result
overflow_add-result c = let h = part_fits _ _ _ c.requires in search rules

pub offset_bounds-names-from : goal.offset_bounds-names-from
offset_bounds-names-from c = let h = part_fits _ _ _ c.requires in search rules

pub slice_bounds-result-count : goal.slice_bounds-result-count
slice_bounds-result-count c = search (rules, tabling)

pub slice_bounds-result-start : goal.slice_bounds-result-start
slice_bounds-result-start c = search (rules, tabling)

pub slice_bounds-result-end : goal.slice_bounds-result-end
slice_bounds-result-end c = let h = part_fits _ _ _ c.requires in search rules

pub returns : goal.returns
returns c = search (rules, tabling)
