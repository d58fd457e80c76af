-- The lines before i are measured, the others are left.
use Rattle.card_write.proofs.Rows.{LinesMeasured}
use Rattle.card_write.proofs.lines_len.Given as goal

abbrev pub invariant-loop-i : goal.invariant-loop-i
invariant-loop-i g l = LinesMeasured (g.T.Texts.text l.texts) l.names l.i l.k
