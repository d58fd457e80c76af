use borrow.Author.Rules.{rules}
use Rattle.sets.proofs.Laws.{shifting}
use Rattle.sets.proofs.shift_in.Goals as goal

pub loop-k-init : goal.loop-k-init
loop-k-init c = search (rules, shifting)

pub bounds-a-k : goal.bounds-a-k
bounds-a-k c = search (rules, shifting)

pub bounds-a-k-in-loop-k : goal.bounds-a-k-in-loop-k
bounds-a-k-in-loop-k c = search (rules, shifting)

pub loop-k-smaller : goal.loop-k-smaller
loop-k-smaller c = search (rules, shifting)

pub loop-k-preserved : goal.loop-k-preserved
loop-k-preserved c = search (rules, shifting)

pub bounds-a-n : goal.bounds-a-n
bounds-a-n c = search (rules, shifting)

pub shape_of-a : goal.shape_of-a
shape_of-a c = search (rules, shifting)

pub returns : goal.returns
returns c = search (rules, shifting)
