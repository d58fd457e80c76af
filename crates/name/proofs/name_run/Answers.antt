use borrow.Author.Rules.{rules}
use Rattle.text.proofs.Laws.{running}
use Rattle.name.proofs.name_run.Goals as goal

pub returns-then-not-is_name_byte : goal.returns-then-not-is_name_byte
returns-then-not-is_name_byte c = search (rules, running)

pub loop-i-preserved : goal.loop-i-preserved
loop-i-preserved c = search (rules, running)

pub returns : goal.returns
returns c = search (rules, running)
