-- The rules are read line by line, then the last line.
use borrow.Author.Rules.{rules}
use Rattle.text.proofs.Exits.{left_by}
use Rattle.sheet_rules.proofs.Whole.{wholly}
use Rattle.sheet_rules.proofs.read_lines.Goals as goal

pub returns-in_err-rows-clause-answer : goal.returns-in_err-rows-clause-answer
returns-in_err-rows-clause-answer c = let h = c.in_err-rows.was in left_by c.from_residual.ensures (search (rules, wholly))

pub overflow_add-result : goal.overflow_add-result
overflow_add-result c = let h = c.in_ok-rows.was in search (rules, wholly)

pub returns-in-Err-clause-answer : goal.returns-in-Err-clause-answer
returns-in-Err-clause-answer c = let h = c.in_ok-rows.was in search (rules, wholly)
