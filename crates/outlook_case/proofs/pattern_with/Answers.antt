-- The pattern of the marks after the run.
use borrow.Author.Rules.{rules}
use Rattle.outlook_case.proofs.Laws.{choosing}
use Rattle.outlook_case.proofs.pattern_with.Goals as goal

pub pattern_of-requires : goal.pattern_of-requires
pattern_of-requires c = search (rules, choosing)

pub returns : goal.returns
returns c = search (rules, choosing)
