-- Where ` if ` stands, the condition behind it is read and told from the start of the line's end; where none stands, the line must end.
use borrow.Author.Rules.{rules}
use Rattle.sheet_trigger.proofs.Pieces.{handed}
use Rattle.sheet_rule.proofs.Endings.{ending_all}
use Rattle.sheet_rule.proofs.read_ending.Goals as goal

pub returns-then-not-starts-clause-space : goal.returns-then-not-starts-clause-space
returns-then-not-starts-clause-space c = search (rules, ending_all)

pub returns-in_err-p-clause-answer : goal.returns-in_err-p-clause-answer
returns-in_err-p-clause-answer c = let h = c.in_err-p.was in handed c.from_residual.ensures λ e q. rw q search (rules, ending_all)

pub returns-in_err-p-clause-space : goal.returns-in_err-p-clause-space
returns-in_err-p-clause-space c = search (rules, ending_all)

pub returns-clause-answer : goal.returns-clause-answer
returns-clause-answer c = let h = c.in_ok-p.was in search (rules, ending_all)

pub returns-clause-space : goal.returns-clause-space
returns-clause-space c = search (rules, ending_all)
