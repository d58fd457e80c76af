use borrow.Author.Rules.{rules}
use Rattle.name.proofs.Laws.{find_here, finding}
use Rattle.name.proofs.find.Goals as goal

pub loop-i-init : goal.loop-i-init
loop-i-init c = search (rules, finding)

pub returns-then-names-i : goal.returns-then-names-i
returns-then-names-i c = search (rules, find_here)

pub loop-i-preserved : goal.loop-i-preserved
loop-i-preserved c = search (rules, finding)

pub returns : goal.returns
returns c = search (rules, finding)
