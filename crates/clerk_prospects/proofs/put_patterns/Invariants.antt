-- A line for each pattern. The loop: the lines of the patterns that are left are still to be written.
use lib.ListN.{drop}
use Rattle.meaning.specs.Text.{joined}
use Rattle.meaning.specs.Clerk.{pattern_line}
use Rattle.name.specs.Names.{names_in}
use Rattle.theory.specs.Writing.Lent.{Left}
use Rattle.clerk_prospects.proofs.put_patterns.Given as goal

abbrev pub invariant-loop-pattern : goal.invariant-loop-pattern
invariant-loop-pattern l =
    Left l.at (joined (pattern_line (names_in l.names)) l.patterns) l.initial.out l.to
    (joined (pattern_line (names_in l.names)) (drop l.pattern-index l.patterns)) l.out
