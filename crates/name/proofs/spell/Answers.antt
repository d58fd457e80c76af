use borrow.Author.Rules.{rules}
use Rattle.name.proofs.Spelt.{spelling}
use Rattle.name.proofs.spell.Goals as goal

pub loop-n-init : goal.loop-n-init
loop-n-init c = search (rules, spelling)

pub returns-then-v-eq0 : goal.returns-then-v-eq0
returns-then-v-eq0 c = search (rules, spelling)

pub bounds-out-to : goal.bounds-out-to
bounds-out-to c = search (rules, spelling)

pub overflow_add-to : goal.overflow_add-to
overflow_add-to c = search (rules, spelling)

pub loop-n-preserved : goal.loop-n-preserved
loop-n-preserved c = search (rules, spelling)

pub returns : goal.returns
returns c = search (rules, spelling)
