-- Where a sign stands, the status behind it is looked up; where none stands, the line is refused.
use borrow.Author.Rules.{rules}
use Rattle.sheet_trigger.proofs.Pieces.{handed, changing}
use Rattle.sheet_trigger.proofs.read_change.Goals as goal

pub returns-in_err-p : goal.returns-in_err-p
returns-in_err-p c = let h = c.in_err-p.was in handed c.from_residual.ensures λ e q. rw q search (rules, changing)
