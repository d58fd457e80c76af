-- A line with a condition ends behind it; its words stand where the condition reader put them.
use borrow.Author.Rules.{rules}
use Rattle.sheet_trigger.proofs.Pieces.{handed}
use Rattle.sheet_rule.proofs.Endings.{asking}
use Rattle.sheet_rule.proofs.asked_end.Goals as goal

pub returns-in_err-p-clause-answer : goal.returns-in_err-p-clause-answer
returns-in_err-p-clause-answer c = let h = c.in_err-p.was in handed c.from_residual.ensures λ e q. rw q search (rules, asking)

pub returns-in_err-p-clause-space : goal.returns-in_err-p-clause-space
returns-in_err-p-clause-space c = let h = c.in_err-p.was in search (rules, asking)

pub returns-in_err-end-clause-answer : goal.returns-in_err-end-clause-answer
returns-in_err-end-clause-answer c =
    let h = c.in_ok-p.was in let g = c.in_err-end.was in handed c.from_residual-in_err-end.ensures λ e q. rw q search (rules, asking)

pub returns-in_err-end-clause-space : goal.returns-in_err-end-clause-space
returns-in_err-end-clause-space c = let h = c.in_ok-p.was in let g = c.in_err-end.was in search (rules, asking)

pub returns-clause-answer : goal.returns-clause-answer
returns-clause-answer c = let h = c.in_ok-p.was in let g = c.in_ok-end.was in search (rules, asking)

pub returns-clause-space : goal.returns-clause-space
returns-clause-space c = let h = c.in_ok-p.was in let g = c.in_ok-end.was in search (rules, asking)
