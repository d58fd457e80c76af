-- `card_read::read_fields` meets its contract. Before line i the tables hold the entries of the i lines read, and what is still to be read gives the whole.
use lib.ListN.{take}
use Rattle.name.specs.Names.{names_in}
use Rattle.card_read.proofs.Fields.{FieldsAt}
use Rattle.card_read.proofs.read_fields.Given as goal

abbrev pub invariant-loop-i : goal.invariant-loop-i
invariant-loop-i l = FieldsAt l.s (take l.count (names_in l.names)) l.from l.at l.values l.starts l.lengths l.i
