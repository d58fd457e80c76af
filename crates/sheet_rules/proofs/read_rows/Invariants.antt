-- The rules are those of the section: at each turn the rest of the section begins at `at`, behind the rules in the table.
use Prim.Native.Nat.{◌-◌}
use lib.ListN.{length}
use Rattle.name.specs.Names.{names_in}
use Rattle.sheet_rules.proofs.Scan.{Going}
use Rattle.sheet_rules.proofs.read_rows.Given as goal

abbrev pub invariant-scan : goal.invariant-scan
invariant-scan l = Going (names_in l.fields) (names_in l.events) (names_in l.statuses) l.s l.initial.words l.at l.rules l.words

abbrev pub decreases-scan : goal.decreases-scan
decreases-scan l = length l.s - l.at
