-- The names of a pattern. The loop: those of the statuses that are left are still to be written.
use lib.ListN.{drop}
use mathlib.Core.Bool.{false}
use Rattle.name.specs.Names.{names_in}
use Rattle.theory.specs.Writing.Lent.{Left}
use Rattle.clerk_prospects.specs.Lines.{names_text}
use Rattle.clerk_prospects.proofs.put_names.Given as goal

abbrev pub invariant-loop-i : goal.invariant-loop-i
invariant-loop-i l =
    Left l.at (names_text false (names_in l.names) l.pattern) l.initial.out l.to (names_text l.behind (drop l.i (names_in l.names)) l.p) l.out
