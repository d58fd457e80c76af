-- `amount_run` answers the value of the longest run of digits. The invariant: the run is the digits passed and those of the rest, and its value is that of
-- the rest's digits behind the value of those passed.
use Rattle.number.proofs.Laws.{Passed}
use Rattle.number.proofs.amount_run.Given as goal

abbrev pub invariant-loop-i : goal.invariant-loop-i
invariant-loop-i l = Passed l.s l.value l.i
