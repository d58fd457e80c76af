-- Without a sign an event is due; behind one stands a status, and the sign says which way it moves.
use borrow.Author.Rules.{rules}
use Rattle.sheet_trigger.proofs.Pieces.{handed, triggering}
use Rattle.sheet_trigger.proofs.read_trigger.Goals as goal

pub returns-in_err-p : goal.returns-in_err-p
returns-in_err-p c = let h = c.in_err-p.was in handed c.from_residual.ensures λ e q. rw q search (rules, triggering)
