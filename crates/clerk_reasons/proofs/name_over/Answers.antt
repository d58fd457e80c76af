-- The name of the parent, or none.
use borrow.Author.Rules.{rules}
use Rattle.clerk_reasons.proofs.Laws.{overs}
use Rattle.clerk_reasons.proofs.name_over.Goals as goal

pub returns-then-parent-eq0 : goal.returns-then-parent-eq0
returns-then-parent-eq0 c = search (rules, overs)

pub returns : goal.returns
returns c = search (rules, overs)
