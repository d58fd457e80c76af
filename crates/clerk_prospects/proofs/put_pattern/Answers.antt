-- The line of a pattern: its key, its names, and the end of the line.
use borrow.Author.Rules.{rules}
use Rattle.clerk_prospects.proofs.Laws.{patterning}
use Rattle.clerk_prospects.proofs.put_pattern.Goals as goal

pub put_text-a-requires : goal.put_text-a-requires
put_text-a-requires c = search (rules, patterning)

pub put_names-b-requires : goal.put_names-b-requires
put_names-b-requires c = search (rules, patterning)

pub put_byte-requires : goal.put_byte-requires
put_byte-requires c = search (rules, patterning)

pub shape_of-out : goal.shape_of-out
shape_of-out c = search (rules, patterning)

pub returns : goal.returns
returns c = search (rules, patterning)
