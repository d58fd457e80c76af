use borrow.Author.Rules.{rules}
use Rattle.outlook_case.proofs.Laws.{collect_more, collect_done, collecting}
use Rattle.outlook_case.proofs.collect.Goals as goal

pub loop-x-init : goal.loop-x-init
loop-x-init c = search (rules, collecting)

pub combo-values-requires : goal.combo-values-requires
combo-values-requires c = search (rules, collecting)

pub pattern_with-p-requires : goal.pattern_with-p-requires
pattern_with-p-requires c = search (rules, collecting)

pub insert-n-requires : goal.insert-n-requires
insert-n-requires c = search (rules, collecting)

pub loop-x-preserved : goal.loop-x-preserved
loop-x-preserved c = search collect_more

pub shape_of-patterns : goal.shape_of-patterns
shape_of-patterns c = search (rules, collecting)

pub returns : goal.returns
returns c = search collect_done
