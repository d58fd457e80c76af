-- A line for each edge. The loop: the lines of the edges that are left are still to be written.
use lib.ListN.{take}
use Rattle.theory.specs.Writing.Lent.{Left}
use Rattle.clerk_rounds.specs.Lines.{round_text}
use Rattle.clerk_rounds.proofs.Laws.{round_from}
use Rattle.clerk_rounds.proofs.put_round.Given as goal

abbrev pub invariant-loop-i : goal.invariant-loop-i
invariant-loop-i l = Left l.at (round_text l.heads l.words (take l.tests.count l.tests.rows) (take l.circle.len l.circle.nodes)) l.initial.out l.to
    (round_from l.heads l.words (take l.tests.count l.tests.rows) (take l.circle.len l.circle.nodes) l.i) l.out
