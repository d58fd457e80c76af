-- The lines of what stands above the rules: four lines, one behind the other.
use borrow.Author.Rules.{rules}
use Rattle.clerk_rounds.proofs.Laws.{heading}
use Rattle.clerk_rounds.proofs.put_heads.Goals as goal

pub put_model-a-requires : goal.put_model-a-requires
put_model-a-requires c = search (rules, heading)

pub put_count-b-requires : goal.put_count-b-requires
put_count-b-requires c = search (rules, heading)

pub put_count-c-requires : goal.put_count-c-requires
put_count-c-requires c = search (rules, heading)

pub put_count-requires : goal.put_count-requires
put_count-requires c = search (rules, heading)

pub returns : goal.returns
returns c = search (rules, heading)
