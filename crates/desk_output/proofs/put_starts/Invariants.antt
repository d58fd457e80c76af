-- A line for each task. The loop: the lines of the names that are left are still to be written.
use Rattle.desk_output.proofs.Lines.{Starting}
use Rattle.desk_output.proofs.put_starts.Given as goal

abbrev pub invariant-loop-left : goal.invariant-loop-left
invariant-loop-left l = Starting l.at l.names l.first l.count l.tasks l.initial.out l.to l.i l.left l.t l.out

abbrev pub decreases-loop-left : goal.decreases-loop-left
decreases-loop-left l = l.left
