use borrow.Author.Rules.{rules}
use Rattle.space.proofs.Laws.{texting}
use Rattle.space.proofs.put_text.Goals as goal

pub loop-i-init : goal.loop-i-init
loop-i-init c = search (rules, texting)

pub put_byte-to-requires : goal.put_byte-to-requires
put_byte-to-requires c = search (rules, texting)

pub loop-i-preserved : goal.loop-i-preserved
loop-i-preserved c = search (rules, texting)

pub returns : goal.returns
returns c = search (rules, texting)
