-- Behind sign and status a trigger is read where ` on ` stands.
use borrow.Author.Rules.{rules}
use Rattle.sheet_trigger.proofs.Pieces.{handed, starting}
use Rattle.sheet_trigger.proofs.read_start.Goals as goal

pub returns-in_err-start : goal.returns-in_err-start
returns-in_err-start c = let h = c.in_err-start.was in handed c.from_residual.ensures λ e q. rw q search (rules, starting)

pub returns-in_err-t : goal.returns-in_err-t
returns-in_err-t c = let h = c.in_ok-start.was in let g = c.in_err-t.was in handed c.from_residual-in_err-t.ensures λ e q. rw q search (rules, starting)

pub returns : goal.returns
returns c = let h = c.in_ok-start.was in let g = c.in_ok-t.was in search (rules, starting)
