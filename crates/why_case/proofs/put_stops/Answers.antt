use borrow.Author.Rules.{rules}
use Rattle.why_case.proofs.Laws.{stopping}
use Rattle.why_case.proofs.put_stops.Goals as goal

pub overflow_mul-base : goal.overflow_mul-base
overflow_mul-base c = search (rules, stopping)

pub overflow_cast-base : goal.overflow_cast-base
overflow_cast-base c = search (rules, stopping)

pub lower-end-requires : goal.lower-end-requires
lower-end-requires c = search (rules, stopping)

pub loop-j-init : goal.loop-j-init
loop-j-init c = search (rules, stopping)

pub offset_bounds-rows-j : goal.offset_bounds-rows-j
offset_bounds-rows-j c = search (rules, stopping)

pub bounds-rows-j : goal.bounds-rows-j
bounds-rows-j c = search (rules, stopping)

pub overflow_add-j : goal.overflow_add-j
overflow_add-j c = search (rules, stopping)

pub overflow_add-reasons : goal.overflow_add-reasons
overflow_add-reasons c = search (rules, stopping)

pub offset_bounds-reasons-n : goal.offset_bounds-reasons-n
offset_bounds-reasons-n c = search (rules, stopping)

pub bounds-reasons-n : goal.bounds-reasons-n
bounds-reasons-n c = search (rules, stopping)

pub overflow_add-n : goal.overflow_add-n
overflow_add-n c = search (rules, stopping)

pub loop-j-smaller-then-c-gt1 : goal.loop-j-smaller-then-c-gt1
loop-j-smaller-then-c-gt1 c = search (rules, stopping)

pub loop-j-preserved-then-c-gt1 : goal.loop-j-preserved-then-c-gt1
loop-j-preserved-then-c-gt1 c = search (rules, stopping)

pub loop-j-smaller : goal.loop-j-smaller
loop-j-smaller c = search (rules, stopping)

pub loop-j-preserved : goal.loop-j-preserved
loop-j-preserved c = search (rules, stopping)

pub returns : goal.returns
returns c = search (rules, stopping)
