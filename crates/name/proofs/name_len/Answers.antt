use borrow.Author.Rules.{rules}
use Rattle.name.proofs.Spelt.{measuring}
use Rattle.name.proofs.name_len.Goals as goal

pub loop-n-init : goal.loop-n-init
loop-n-init c = search (rules, measuring)

pub returns-then-v-eq0 : goal.returns-then-v-eq0
returns-then-v-eq0 c = search (rules, measuring)

pub loop-n-preserved : goal.loop-n-preserved
loop-n-preserved c = search (rules, measuring)

pub returns : goal.returns
returns c = search (rules, measuring)
