-- A line without a condition has a trigger, and ends there.
use borrow.Author.Rules.{rules}
use Rattle.sheet_trigger.proofs.Pieces.{handed}
use Rattle.sheet_rule.proofs.Endings.{plainly}
use Rattle.sheet_rule.proofs.plain_end.Goals as goal

pub returns-in_err-bytes : goal.returns-in_err-bytes
returns-in_err-bytes c = let h = c.in_err-bytes.was in handed c.from_residual.ensures λ e q. rw q search (rules, plainly)
