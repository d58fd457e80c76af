use borrow.Author.Rules.{rules}
use Rattle.step_moment.proofs.Laws.{counting}
use Rattle.step_moment.proofs.pattern_of.Goals as goal

pub loop-i-init : goal.loop-i-init
loop-i-init c = search (rules, counting)

pub overflow_mul-p : goal.overflow_mul-p
overflow_mul-p c = search (rules, counting)

pub overflow_add-p : goal.overflow_add-p
overflow_add-p c = search (rules, counting)

pub loop-i-preserved : goal.loop-i-preserved
loop-i-preserved c = search (rules, counting)
