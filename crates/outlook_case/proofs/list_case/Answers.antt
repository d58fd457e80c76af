-- The values to be tried, then the patterns of all choices; nothing where they are too many.
use borrow.Author.Rules.{rules}
use Rattle.outlook_case.specs.Patterns.{as_listed, tried_of}
use Rattle.outlook_case.proofs.Laws.{list_many, list_untouched, list_all, list_space_lem, filling}
use Rattle.outlook_case.proofs.list_case.Goals as goal

pub slice_bounds-fill-end-3 : goal.slice_bounds-fill-end-3
slice_bounds-fill-end-3 c = search (rules, filling)

pub slice_bounds-fill-end-4 : goal.slice_bounds-fill-end-4
slice_bounds-fill-end-4 c = search (rules, filling)

pub fill-filled-requires : goal.fill-filled-requires
fill-filled-requires c = search (rules, filling)

pub returns-in_err-count : goal.returns-in_err-count
unfolding as_listed tried_of
returns-in_err-count c =
    record { answer = search (rules, c.in_err-count.was, list_many); space = search (rules, c.in_err-count.was, list_untouched) }

pub slice_bounds-collect-end-2 : goal.slice_bounds-collect-end-2
slice_bounds-collect-end-2 c = search (rules, filling)

pub slice_bounds-collect-end-3 : goal.slice_bounds-collect-end-3
slice_bounds-collect-end-3 c = search (rules, filling)

pub collect-n-requires : goal.collect-n-requires
collect-n-requires c = search (rules, c.in_ok-count.was, filling)

pub returns : goal.returns
returns c =
    record { answer = search (rules, c.in_ok-count.was, list_all); space = search (rules, c.in_ok-count.was, list_space_lem) }
