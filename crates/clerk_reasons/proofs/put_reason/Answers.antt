-- The line of a reason: its head, and what is told.
use borrow.Author.Rules.{rules}
use Rattle.clerk_reasons.proofs.Laws.{line_told, lining}
use Rattle.clerk_reasons.proofs.put_reason.Goals as goal

pub put_head-a-requires : goal.put_head-a-requires
put_head-a-requires c = search (rules, lining)

pub put_told-requires : goal.put_told-requires
put_told-requires c = (search rules, search rules, search line_told)

pub returns : goal.returns
returns c = search (rules, lining)
