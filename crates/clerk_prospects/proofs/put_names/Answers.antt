use borrow.Author.Rules.{rules}
use Rattle.clerk_prospects.proofs.Laws.{names}
use Rattle.clerk_prospects.proofs.put_names.Goals as goal

pub put_yes-to-requires : goal.put_yes-to-requires
put_yes-to-requires c = search (rules, names)

pub loop-i-preserved : goal.loop-i-preserved
loop-i-preserved c = search (rules, names)

pub returns : goal.returns
returns c = search (rules, names)
