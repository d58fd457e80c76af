-- Field after field is put in. The invariant: putting in what is left from here on is putting in all from the start.
use Rattle.step_moment.proofs.Laws.{Putting}
use Rattle.step_moment.proofs.put_in.Given as goal

abbrev pub invariant-loop-i : goal.invariant-loop-i
invariant-loop-i l = Putting l.e.fields l.e.values l.initial.values l.e.count l.values l.i
