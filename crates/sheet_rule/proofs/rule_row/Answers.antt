-- A line is its start and its end; the first of them that is refused decides.
use borrow.Author.Rules.{rules}
use Rattle.sheet_trigger.proofs.Pieces.{handed}
use Rattle.sheet_rule.proofs.Rows.{rowing}
use Rattle.sheet_rule.proofs.rule_row.Goals as goal

pub returns-in_err-a-clause-answer : goal.returns-in_err-a-clause-answer
returns-in_err-a-clause-answer c = let h = c.in_err-a.was in handed c.from_residual.ensures λ e q. rw q search (rules, rowing)

pub returns-in_err-a-clause-space : goal.returns-in_err-a-clause-space
returns-in_err-a-clause-space c = let h = c.in_err-a.was in search (rules, rowing)

pub returns-in_err-p-clause-answer : goal.returns-in_err-p-clause-answer
returns-in_err-p-clause-answer c = let h = c.in_ok-a.was in let g = c.in_err-p.was in handed c.from_residual-in_err-p.ensures λ e q. rw q search (rules, rowing)

pub returns-in_err-p-clause-space : goal.returns-in_err-p-clause-space
returns-in_err-p-clause-space c = let h = c.in_ok-a.was in search (rules, rowing)

pub returns-clause-answer : goal.returns-clause-answer
returns-clause-answer c = let h = c.in_ok-a.was in let g = c.in_ok-p.was in search (rules, rowing)

pub returns-clause-space : goal.returns-clause-space
returns-clause-space c = let h = c.in_ok-a.was in search (rules, rowing)
