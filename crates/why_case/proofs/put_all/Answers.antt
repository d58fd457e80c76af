use borrow.Author.Rules.{rules}
use Rattle.why_case.proofs.Laws.{listing}
use Rattle.why_case.proofs.put_all.Goals as goal

pub loop-x-init : goal.loop-x-init
loop-x-init c = search (rules, listing)

pub status_at-status-requires : goal.status_at-status-requires
status_at-status-requires c = search (rules, listing)

pub put_status-n-requires : goal.put_status-n-requires
put_status-n-requires c = search (rules, listing)

pub loop-x-preserved : goal.loop-x-preserved
loop-x-preserved c = search (rules, listing)

pub returns : goal.returns
returns c = search (rules, listing)
