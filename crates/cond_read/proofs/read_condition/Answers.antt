-- `cond_read::read_condition` meets its contract: the reader of conditions at nesting 8 answers as the definition; where it refuses, the words from `top` on
-- are cleared.
use borrow.Author.Rules.{rules}
use Rattle.cond_read.proofs.Items.{wholes}
use Rattle.cond_read.proofs.read_condition.Goals as goal

pub returns-then-is_err-clause-answer : goal.returns-then-is_err-clause-answer
returns-then-is_err-clause-answer c = search (rules, wholes)

pub returns-then-is_err-clause-space : goal.returns-then-is_err-clause-space
returns-then-is_err-clause-space c = search (rules, wholes)

pub returns-else-is_err-clause-answer : goal.returns-else-is_err-clause-answer
returns-else-is_err-clause-answer c = search (rules, wholes)

pub returns-else-is_err-clause-space : goal.returns-else-is_err-clause-space
returns-else-is_err-clause-space c = search (rules, wholes)
