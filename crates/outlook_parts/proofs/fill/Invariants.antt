-- `outlook_parts::fill` goes over the fields. The loop: the lists so far stand in the space, and with what is still to be tried they give the whole.
use lib.ListN.{take}
use Rattle.outlook_parts.proofs.Laws.{Filling}
use Rattle.outlook_parts.proofs.fill.Given as goal

abbrev pub invariant-loop-f : goal.invariant-loop-f
invariant-loop-f l = Filling (take l.top l.words) l.fields l.values l.initial.flat l.flat l.initial.lens l.lens l.total l.p l.f
