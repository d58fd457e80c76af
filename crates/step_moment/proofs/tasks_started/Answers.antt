use borrow.Author.Rules.{rules}
use Rattle.step_moment.proofs.Laws.{tasking}
use Rattle.step_moment.proofs.tasks_started.Goals as goal

pub loop-x-preserved : goal.loop-x-preserved
loop-x-preserved c = search (rules, tasking)
