-- Where the lines start. The loop: the starts that stand and those that are still to be told give the whole.
use Rattle.desk_split.proofs.Laws.{Starting}
use Rattle.desk_split.proofs.line_starts.Given as goal

abbrev pub invariant-loop-l : goal.invariant-loop-l
invariant-loop-l l = Starting l.s l.initial.starts l.at l.l l.starts
