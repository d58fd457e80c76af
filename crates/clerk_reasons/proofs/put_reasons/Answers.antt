-- Where the lines of the sheet start, then a line for each reason.
use borrow.Author.Rules.{rules}
use Rattle.clerk_reasons.proofs.Laws.{finding}
use Rattle.clerk_reasons.proofs.put_reasons.Goals as goal

pub slice_bounds-line_starts-end : goal.slice_bounds-line_starts-end
slice_bounds-line_starts-end c = search (rules, finding)

pub line_starts-requires : goal.line_starts-requires
line_starts-requires c = search (rules, finding)

pub put_lines-requires : goal.put_lines-requires
put_lines-requires c = search (rules, finding)

pub shape_of-out : goal.shape_of-out
shape_of-out c = search (rules, finding)

pub returns : goal.returns
returns c = search (rules, finding)
