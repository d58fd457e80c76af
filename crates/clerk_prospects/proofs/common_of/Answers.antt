use borrow.Author.Rules.{rules}
use Rattle.clerk_prospects.proofs.Laws.{common}
use Rattle.clerk_prospects.proofs.common_of.Goals as goal

pub loop-p-init : goal.loop-p-init
loop-p-init c = search (rules, common)

pub loop-p-preserved : goal.loop-p-preserved
loop-p-preserved c = search (rules, common)

pub returns : goal.returns
returns c = search (rules, common)
