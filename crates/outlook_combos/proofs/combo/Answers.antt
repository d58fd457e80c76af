use borrow.Author.Rules.{rules}
use Rattle.outlook_combos.proofs.Laws.{choosing}
use Rattle.outlook_combos.proofs.combo.Goals as goal

pub nonzero_div-c : goal.nonzero_div-c
nonzero_div-c c = search (rules, choosing)

pub nonzero_div-rest : goal.nonzero_div-rest
nonzero_div-rest c = search (rules, choosing)

pub overflow_add-base : goal.overflow_add-base
overflow_add-base c = search (rules, choosing)

pub offset_bounds-flat-base : goal.offset_bounds-flat-base
offset_bounds-flat-base c = search (rules, choosing)

pub bounds-flat-base : goal.bounds-flat-base
bounds-flat-base c = search (rules, choosing)

pub nonzero_rem-rest : goal.nonzero_rem-rest
nonzero_rem-rest c = search (rules, choosing)

pub overflow_add-base-in-loop-f : goal.overflow_add-base-in-loop-f
overflow_add-base-in-loop-f c = search (rules, choosing)

pub loop-f-preserved : goal.loop-f-preserved
loop-f-preserved c = search (rules, choosing)

pub returns : goal.returns
returns c = search (rules, choosing)
