-- `card_read::read_marks` meets its contract. Before line i the table holds the marks of the i lines read, and what is still to be read gives the whole.
use lib.ListN.{take, drop}
use Rattle.name.specs.Names.{names_in}
use Rattle.card_read.proofs.Marks.{MarksAt}
use Rattle.card_read.proofs.read_marks.Given as goal

abbrev pub invariant-loop-i : goal.invariant-loop-i
invariant-loop-i l = MarksAt l.s (take l.count (drop l.first (names_in l.names))) l.from l.line l.at l.marks l.i
