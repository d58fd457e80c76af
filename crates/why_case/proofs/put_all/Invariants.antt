-- `put_all` puts the reasons of status after status. The invariant: with the statuses that are left, the list becomes what it becomes with all.
use Rattle.why_case.proofs.Laws.{Listing}
use Rattle.why_case.proofs.put_all.Given as goal

abbrev pub invariant-loop-x : goal.invariant-loop-x
invariant-loop-x l = Listing l.facts l.rows l.statuses l.initial.reasons l.reasons l.n l.x
