-- `put_status` puts the one reason of a status that changed, otherwise those of its rows.
use borrow.Author.Rules.{rules}
use Rattle.why_case.proofs.Laws.{putting}
use Rattle.why_case.proofs.put_status.Goals as goal

pub put_stops-requires : goal.put_stops-requires
put_stops-requires c = search (rules, putting)

pub returns-then-not-status : goal.returns-then-not-status
returns-then-not-status c = search (rules, putting)

pub first_held-c-requires : goal.first_held-c-requires
first_held-c-requires c = search (rules, putting)

pub returns-then-c-eq0 : goal.returns-then-c-eq0
returns-then-c-eq0 c = search (rules, putting)

pub overflow_mul-reasons : goal.overflow_mul-reasons
overflow_mul-reasons c = search (rules, putting)

pub overflow_cast-reasons : goal.overflow_cast-reasons
overflow_cast-reasons c = search (rules, putting)

pub overflow_add-reasons : goal.overflow_add-reasons
overflow_add-reasons c = search (rules, putting)

pub offset_bounds-reasons-n : goal.offset_bounds-reasons-n
offset_bounds-reasons-n c = search (rules, putting)

pub bounds-reasons-n : goal.bounds-reasons-n
bounds-reasons-n c = search (rules, putting)

pub overflow_add-result : goal.overflow_add-result
overflow_add-result c = search (rules, putting)

pub returns : goal.returns
returns c = search (rules, putting)
