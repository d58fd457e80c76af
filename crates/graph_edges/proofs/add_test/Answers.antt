-- `graph_edges::add_test` adds the edges of a test: those of its trigger, its condition and its home.
use Rattle.graph_edges.proofs.Laws.{test_added}
use Rattle.graph_edges.proofs.add_test.Goals as goal

pub returns : goal.returns
returns c =
    test_added _ _ _ _ c.from-k.ensures _ _ _ c.add_trigger.ensures _ _ c.from.ensures c.from-2.ensures _ c.words_at-condition.ensures c.add_words.ensures
    c.add_home.ensures
