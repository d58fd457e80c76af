-- An event trigger is a known event: what the name piece answers is handed on.
use borrow.Author.Rules.{rules}
use Rattle.sheet_trigger.proofs.Pieces.{handed, eventing}
use Rattle.sheet_trigger.proofs.event_trigger.Goals as goal

pub returns-in_err-p : goal.returns-in_err-p
returns-in_err-p c = let h = c.in_err-p.was in handed c.from_residual.ensures λ e q. rw q search (rules, eventing)
