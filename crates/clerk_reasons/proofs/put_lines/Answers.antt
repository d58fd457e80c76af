use borrow.Author.Rules.{rules}
use Rattle.desk_print.proofs.Laws.{listing}
use Rattle.clerk_reasons.proofs.Laws.{lines_room, all}
use Rattle.clerk_reasons.proofs.put_lines.Goals as goal

pub loop-reason-init : goal.loop-reason-init
loop-reason-init c = search (rules, listing, all)

pub put_reason-to-requires : goal.put_reason-to-requires
put_reason-to-requires c = (search rules, search (rules, all), search lines_room)

pub loop-reason-preserved : goal.loop-reason-preserved
loop-reason-preserved c = search (rules, listing, all)

pub returns : goal.returns
returns c = search (rules, listing, all)
