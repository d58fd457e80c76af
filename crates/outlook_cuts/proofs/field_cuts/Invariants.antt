-- `outlook_cuts::field_cuts` goes over the words from the last on: each puts its codes in among those of the words behind it.
use Rattle.outlook_cuts.proofs.Laws.{Gathering}
use Rattle.outlook_cuts.proofs.field_cuts.Given as goal

abbrev pub invariant-loop-i : goal.invariant-loop-i
invariant-loop-i l = Gathering l.words l.top l.f l.initial.out l.out l.n l.i
