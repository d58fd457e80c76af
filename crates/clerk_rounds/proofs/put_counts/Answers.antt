-- What a sheet holds: four parts, one behind the other.
use borrow.Author.Rules.{rules}
use Rattle.clerk_rounds.proofs.Laws.{summing}
use Rattle.clerk_rounds.proofs.put_counts.Goals as goal

pub put_heads-a-requires : goal.put_heads-a-requires
put_heads-a-requires c = search (rules, summing)

pub put_count-b-requires : goal.put_count-b-requires
put_count-b-requires c = search (rules, summing)

pub put_count-c-requires : goal.put_count-c-requires
put_count-c-requires c = search (rules, summing)

pub put_count-requires : goal.put_count-requires
put_count-requires c = search (rules, summing)

pub returns : goal.returns
returns c = search (rules, summing)
