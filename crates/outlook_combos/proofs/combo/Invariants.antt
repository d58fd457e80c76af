-- `outlook_combos::combo` takes the number apart, from the highest digit on. The loop: what is still to be chosen gives the whole.
use Rattle.outlook_combos.proofs.Laws.{Choosing}
use Rattle.outlook_combos.proofs.combo.Given as goal

abbrev pub invariant-loop-f : goal.invariant-loop-f
invariant-loop-f l = Choosing l.x l.lens l.flat l.v l.rest l.c l.base l.f
