-- By whether a space stands.
use borrow.Author.Rules.{rules}
use Rattle.text.proofs.Exits.{left_by}
use Rattle.sheet_events.proofs.Pieces.{next_piece}
use Rattle.sheet_events.proofs.next_piece.Goals as goal

pub returns-then-not-starts : goal.returns-then-not-starts
returns-then-not-starts c = search (rules, next_piece)

pub returns-in_err-field : goal.returns-in_err-field
returns-in_err-field c = left_by c.from_residual.ensures (search (rules, next_piece, c.in_err-field.was))

pub returns-then-heads-so : goal.returns-then-heads-so
returns-then-heads-so c = search (rules, next_piece, c.in_ok-field.was)

pub returns-then-is_carried : goal.returns-then-is_carried
returns-then-is_carried c = search (rules, next_piece, c.in_ok-field.was)

pub returns : goal.returns
returns c = search (rules, next_piece, c.in_ok-field.was)
