-- `list_all` puts the reasons of a sheet at a moment: from the marks after its step, what is told of its rows, and where they stand.
use borrow.Author.Rules.{rules}
use Rattle.why_case.proofs.Laws.{sheet_list, gathering}
use Rattle.why_case.proofs.list_all.Goals as goal

pub tell_rows-rows-requires : goal.tell_rows-rows-requires
tell_rows-rows-requires c = search (rules, gathering)

pub row_spans-spans-requires : goal.row_spans-spans-requires
row_spans-spans-requires c = search (rules, gathering)

pub overflow_add-facts : goal.overflow_add-facts
overflow_add-facts c = search (rules, gathering)

pub overflow_add-facts-2 : goal.overflow_add-facts-2
overflow_add-facts-2 c = search (rules, gathering)

pub slice_bounds-put_all-end : goal.slice_bounds-put_all-end
slice_bounds-put_all-end c = search (rules, gathering)

pub put_all-requires : goal.put_all-requires
put_all-requires c = search (rules, gathering)

pub returns : goal.returns
returns c = search sheet_list
