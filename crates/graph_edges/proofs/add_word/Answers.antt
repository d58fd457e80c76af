-- `graph_edges::add_word` adds the edges of a word: the kinds 2 and 3 are those between the two tests.
use borrow.Author.Rules.{rules}
use Rattle.graph_edges.proofs.Laws.{wording}
use Rattle.graph_edges.proofs.add_word.Goals as goal

pub returns-then-w-lt2 : goal.returns-then-w-lt2
returns-then-w-lt2 c = search (rules, wording)

pub returns-then-w-ge4 : goal.returns-then-w-ge4
returns-then-w-ge4 c = search (rules, wording)

pub link_both-requires : goal.link_both-requires
link_both-requires c = search (rules, wording)

pub returns : goal.returns
returns c = search (rules, wording)
