-- One pass over the patterns. The loop: what the patterns that are left leave of the bits, and add to them, is what all do.
use Rattle.clerk_prospects.proofs.Laws.{Sharing}
use Rattle.clerk_prospects.proofs.common_of.Given as goal

abbrev pub invariant-loop-p : goal.invariant-loop-p
invariant-loop-p l = Sharing l.patterns l.all l.some l.p-index
