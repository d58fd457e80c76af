-- How long the first paper is. The loop: the whole length is what is passed and the length of what is left, where a line starts or not.
use Rattle.desk_split.proofs.Laws.{Passing}
use Rattle.desk_split.proofs.paper_len.Given as goal

abbrev pub invariant-loop-i : goal.invariant-loop-i
invariant-loop-i l = Passing l.s l.i l.starts
