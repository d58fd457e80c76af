-- `tell_rows` tells of each row. The invariant: with the rows that are left, the table becomes what it becomes with all.
use Rattle.why_case.proofs.Laws.{Telling}
use Rattle.why_case.proofs.tell_rows.Given as goal

abbrev pub invariant-loop-j : goal.invariant-loop-j
invariant-loop-j l = Telling l.words l.moment l.after l.plan.rows l.rows l.j
