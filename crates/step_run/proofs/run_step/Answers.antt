use mathlib.Core.Path.{refl}
use lib.ListN.{get_or}
use borrow.Author.Rules.{rules}
use native.Mathlib.Omega.{arith}
use Rattle.step_run.proofs.Laws.{run_start, run_more, run_end, mark_none}
use Rattle.step_run.proofs.run_step.Goals as goal
use Rattle.step_run.proofs.run_step.Goals.{then-node_met, else-node_met}

pub loop-i-init : goal.loop-i-init
loop-i-init c = search (rules, run_start)

pub loop-i-preserved : goal.loop-i-preserved
loop-i-preserved c =
    let p = c.args.plan in
    run_more _ _ _ _ _ _ c.loop-i.invariant (omega arith) _ c.from-end.ensures _ refl _ c.node_met.ensures _
    (elim c.if-node_met.branch [
      | then-node_met w ↦ (cc)
      | else-node_met w ↦ (cc (mark_none (get_or p.order c.loop-i.i 0) c.loop-i.after))
    ])

pub returns : goal.returns
returns c = run_end _ _ _ _ _ _ c.loop-i.invariant (omega arith)
