-- `row_spans` answers where the rows of each node stand. The invariant: with the nodes that are left, the tables become what they become with all.
use Rattle.why_case.proofs.Laws.{Spanning}
use Rattle.why_case.proofs.row_spans.Given as goal

abbrev pub invariant-loop-i : goal.invariant-loop-i
invariant-loop-i l = Spanning l.plan l.nodes l.from l.to l.end l.i
