use borrow.Author.Rules.{rules}
use Rattle.why_case.proofs.Laws.{seeking}
use Rattle.why_case.proofs.first_held.Goals as goal

pub loop-j-init : goal.loop-j-init
loop-j-init c = search (rules, seeking)

pub offset_bounds-rows-j : goal.offset_bounds-rows-j
offset_bounds-rows-j c = search (rules, seeking)

pub bounds-rows-j : goal.bounds-rows-j
bounds-rows-j c = search (rules, seeking)

pub offset_bounds-rows-j-then-rows-j-eq1 : goal.offset_bounds-rows-j-then-rows-j-eq1
offset_bounds-rows-j-then-rows-j-eq1 c = search (rules, seeking)

pub bounds-rows-j-then-rows-j-eq1 : goal.bounds-rows-j-then-rows-j-eq1
bounds-rows-j-then-rows-j-eq1 c = search (rules, seeking)

pub returns-then-rows-j-eq1 : goal.returns-then-rows-j-eq1
returns-then-rows-j-eq1 c = search (rules, seeking)

pub loop-j-preserved : goal.loop-j-preserved
loop-j-preserved c = search (rules, seeking)

pub returns : goal.returns
returns c = search (rules, seeking)
