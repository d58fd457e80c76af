-- The lines before i stand, the others are left.
use Rattle.card_write.proofs.Rows.{LinesLeft}
use Rattle.card_write.proofs.lines_at.Given as goal

abbrev pub invariant-loop-i : goal.invariant-loop-i
invariant-loop-i g l = LinesLeft (g.T.Texts.text l.texts) l.names l.at l.initial.out l.to l.i l.out
