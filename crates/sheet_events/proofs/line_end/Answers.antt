-- By whether an LF stands.
use borrow.Author.Rules.{rules}
use Rattle.sheet_events.proofs.Pieces.{end_none, end_here}
use Rattle.sheet_events.proofs.line_end.Goals as goal

pub returns-then-not-starts : goal.returns-then-not-starts
returns-then-not-starts c = search (rules, end_none, end_here)

pub returns : goal.returns
returns c = search (rules, end_none, end_here)
