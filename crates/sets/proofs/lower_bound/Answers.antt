use borrow.Author.Rules.{rules}
use Rattle.sets.proofs.Laws.{bracketing}
use Rattle.sets.proofs.lower_bound.Goals as goal

pub loop-lo-init : goal.loop-lo-init
loop-lo-init c = search (rules, bracketing)

pub bounds-a-mid : goal.bounds-a-mid
bounds-a-mid c = search (rules, bracketing)

pub loop-lo-smaller-then-a-mid : goal.loop-lo-smaller-then-a-mid
loop-lo-smaller-then-a-mid c = search (rules, bracketing)

pub loop-lo-preserved-then-a-mid : goal.loop-lo-preserved-then-a-mid
loop-lo-preserved-then-a-mid c = search (rules, bracketing)

pub loop-lo-smaller : goal.loop-lo-smaller
loop-lo-smaller c = search (rules, bracketing)

pub loop-lo-preserved : goal.loop-lo-preserved
loop-lo-preserved c = search (rules, bracketing)

pub returns : goal.returns
returns c = search (rules, bracketing)
