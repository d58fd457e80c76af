-- `graph_circle::left_when_stuck` answers the nodes left when no further one is free. The loop: what is left of all nodes is what is left of those left now.
use Rattle.graph_circle.proofs.Laws.{Taking}
use Rattle.graph_circle.proofs.left_when_stuck.Given as goal

abbrev pub invariant-loop-i : goal.invariant-loop-i
invariant-loop-i l = Taking l.masks l.n l.left l._i
