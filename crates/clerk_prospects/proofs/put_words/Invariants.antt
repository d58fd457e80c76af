-- A line for each status. The loop: the lines of the names that are left are still to be written.
use lib.ListN.{drop}
use Rattle.name.specs.Names.{names_in}
use Rattle.theory.specs.Writing.Lent.{Left}
use Rattle.clerk_prospects.specs.Lines.{word_lines}
use Rattle.clerk_prospects.proofs.put_words.Given as goal

abbrev pub invariant-loop-i : goal.invariant-loop-i
invariant-loop-i l = Left 0 (word_lines (names_in l.names) l.all l.some) l.initial.out l.to (word_lines (drop l.i (names_in l.names)) l.a l.s) l.out
