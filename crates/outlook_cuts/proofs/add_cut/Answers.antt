-- `outlook_cuts::add_cut` puts a code in, where a cut can be there.
use borrow.Author.Rules.{rules}
use Rattle.outlook_cuts.proofs.Laws.{coding}
use Rattle.outlook_cuts.proofs.add_cut.Goals as goal

pub returns-then-code-lt2 : goal.returns-then-code-lt2
returns-then-code-lt2 c = search (rules, coding)

pub returns-then-code-gt-LAST : goal.returns-then-code-gt-LAST
returns-then-code-gt-LAST c = search (rules, coding)

pub overflow_cast-code : goal.overflow_cast-code
overflow_cast-code c = search (rules, coding)

pub insert-requires : goal.insert-requires
insert-requires c = search (rules, coding)

pub shape_of-a : goal.shape_of-a
shape_of-a c = search (rules, coding)

pub returns : goal.returns
returns c = search (rules, coding)
