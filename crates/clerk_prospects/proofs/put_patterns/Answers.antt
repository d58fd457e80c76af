use borrow.Author.Rules.{rules}
use Rattle.desk_print.proofs.Laws.{listing}
use Rattle.clerk_prospects.proofs.Laws.{patterns_room}
use Rattle.clerk_prospects.proofs.put_patterns.Goals as goal

pub put_pattern-to-requires : goal.put_pattern-to-requires
put_pattern-to-requires c = search (rules, listing, patterns_room)

pub loop-pattern-preserved : goal.loop-pattern-preserved
loop-pattern-preserved c = search (rules, listing, patterns_room)

pub returns : goal.returns
returns c = search (rules, listing, patterns_room)
