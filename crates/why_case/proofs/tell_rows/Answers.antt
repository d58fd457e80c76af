use borrow.Author.Rules.{rules}
use Rattle.why_case.proofs.Laws.{telling}
use Rattle.why_case.proofs.tell_rows.Goals as goal

pub loop-j-init : goal.loop-j-init
loop-j-init c = search (rules, telling)

pub offset_bounds-plan-j : goal.offset_bounds-plan-j
offset_bounds-plan-j c = search (rules, telling)

pub bounds-plan-j : goal.bounds-plan-j
bounds-plan-j c = search (rules, telling)

pub tell_row-requires : goal.tell_row-requires
tell_row-requires c = search (rules, telling)

pub offset_bounds-rows-j : goal.offset_bounds-rows-j
offset_bounds-rows-j c = search (rules, telling)

pub bounds-rows-j : goal.bounds-rows-j
bounds-rows-j c = search (rules, telling)

pub loop-j-preserved : goal.loop-j-preserved
loop-j-preserved c = search (rules, telling)

pub returns : goal.returns
returns c = search (rules, telling)
