use Rattle.std.proofs.Common.{refl}
use Rattle.graph_edges.proofs.Laws.{reading_start, reading_next}
use Rattle.graph_edges.proofs.add_words.Goals as goal

pub loop-w-init : goal.loop-w-init
loop-w-init c = reading_start _ _ _ c.requires

pub loop-w-preserved : goal.loop-w-preserved
loop-w-preserved c = reading_next _ _ _ _ _ c.loop-w.invariant _ refl _ c.loop-w-test.true c.add_word.ensures
