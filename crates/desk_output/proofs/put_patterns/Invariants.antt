-- A line for each pattern. The loop: the lines of the patterns that are left are still to be written.
use Prim.Native.Nat.{◌-◌}
use lib.ListN.{length, drop}
use Rattle.meaning.specs.Text.{joined}
use Rattle.theory.specs.Writing.Lent.{Left}
use Rattle.desk_print.specs.Lines.{pattern_text}
use Rattle.desk_output.proofs.put_patterns.Given as goal

abbrev pub invariant-loop-i : goal.invariant-loop-i
invariant-loop-i l = Left l.at (joined pattern_text l.patterns) l.initial.out l.to (joined pattern_text (drop l.i l.patterns)) l.out

abbrev pub decreases-loop-i : goal.decreases-loop-i
decreases-loop-i l = length l.patterns - l.i
