-- `first_held` answers the first row that held. The invariant: the rows that are left have the same first.
use Rattle.why_case.proofs.Laws.{Seeking}
use Rattle.why_case.proofs.first_held.Given as goal

abbrev pub invariant-loop-j : goal.invariant-loop-j
invariant-loop-j l = Seeking l.rows l.from l.to l.other l.end l.j
