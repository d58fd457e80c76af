-- `card_read::first_orphan` meets its contract. No stage before x is an orphan, so the first of all is the first from x on.
use mathlib.Core.Path.{◌≡◌}
use Rattle.meaning.specs.Card.{orphan}
use Rattle.sheet_tables.specs.Heads.{heads_of}
use Rattle.marks.specs.Codes.{side_of}
use Rattle.card_read.proofs.Marks.{stages_from}
use Rattle.card_read.proofs.first_orphan.Given as goal

abbrev pub invariant-loop-x : goal.invariant-loop-x
invariant-loop-x l = orphan (side_of l.marks) 0 (heads_of l.h).stages ≡ orphan (side_of l.marks) l.x (stages_from l.h l.x)
