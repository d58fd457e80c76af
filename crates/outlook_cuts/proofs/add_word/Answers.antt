-- `outlook_cuts::add_word` puts in the codes of one word: of a comparison with "equal to" the higher first.
use borrow.Author.Rules.{rules}
use Rattle.outlook_cuts.proofs.Laws.{wording}
use Rattle.outlook_cuts.proofs.add_word.Goals as goal

pub returns-then-w-lt4 : goal.returns-then-w-lt4
returns-then-w-lt4 c = search (rules, wording)

pub returns-then-w-f : goal.returns-then-w-f
returns-then-w-f c = search (rules, wording)

pub add_cut-requires : goal.add_cut-requires
add_cut-requires c = (search rules, search rules)

pub shape_of-a-then-w-lt6 : goal.shape_of-a-then-w-lt6
shape_of-a-then-w-lt6 c = search (rules, wording)

pub returns-then-w-lt6 : goal.returns-then-w-lt6
returns-then-w-lt6 c = search (rules, wording)

pub overflow_add-w : goal.overflow_add-w
overflow_add-w c = search (rules, wording)

pub add_cut-m-requires : goal.add_cut-m-requires
add_cut-m-requires c = (search rules, search rules)

pub add_cut-requires-2 : goal.add_cut-requires-2
add_cut-requires-2 c = search (rules, wording)

pub shape_of-a : goal.shape_of-a
shape_of-a c = search (rules, wording)

pub returns : goal.returns
returns c = search (rules, wording)
