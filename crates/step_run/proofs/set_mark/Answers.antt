-- `set_mark` sets the mark of a node's status, and changes nothing behind the last.
use mathlib.Core.Path.{sym, ap, ◌∙◌}
use mathlib.Core.Bool.{cond}
use native.Mathlib.Omega.{arith}
use borrow.Author.Tests.{eq-eqb, ne_eqb}
use Rattle.step_run.proofs.Laws.{mark_in, mark_out}
use Rattle.step_run.proofs.set_mark.Goals as goal
use Rattle.step_run.proofs.set_mark.Goals.{then-k-eq0, else-k-eq0}

pub returns-after-k-eq0 : goal.returns-after-k-eq0
returns-after-k-eq0 c =
    mark_in _ _ _ _ c.from-x.ensures
    (elim c.if-k-eq0.branch [
      | then-k-eq0 w ↦ w.after-is ∙ ap (λ b. cond b 2 0) (sym (eq-eqb _ 0 w.if-k-eq0.true))
      | else-k-eq0 w ↦ w.after-is ∙ ap (λ b. cond b 2 0) (sym (ne_eqb _ 0 w.if-k-eq0.false))
    ])

pub returns-else-x-lt-STATUSES : goal.returns-else-x-lt-STATUSES
returns-else-x-lt-STATUSES c = mark_out _ _ _ c.from-x.ensures (omega arith)
