-- The lines of the statuses, then those of the patterns.
use borrow.Author.Rules.{rules}
use Rattle.clerk_prospects.proofs.Laws.{lining}
use Rattle.clerk_prospects.proofs.put_lines.Goals as goal

pub common_of-common-requires : goal.common_of-common-requires
common_of-common-requires c = search (rules, lining)

pub put_words-a-requires : goal.put_words-a-requires
put_words-a-requires c = search (rules, lining)

pub put_patterns-requires : goal.put_patterns-requires
put_patterns-requires c = search (rules, lining)

pub shape_of-out : goal.shape_of-out
shape_of-out c = search (rules, lining)

pub returns : goal.returns
returns c = search (rules, lining)
