use mathlib.Core.Path.{refl}
use borrow.Author.Rules.{rules}
use Rattle.number.proofs.Entries.{entering, entry_refused, entry_room}
use Rattle.number.proofs.entry_piece.Goals as goal

pub returns-then-starts : goal.returns-then-starts
returns-then-starts c = search (rules, entering)

pub returns-in_err-number : goal.returns-in_err-number
returns-in_err-number c = search (rules, entry_refused _ _ c.number_piece.ensures _ c.starts.ensures c.if-starts.false)

pub overflow_add-result : goal.overflow_add-result
overflow_add-result c = entry_room _ _ c.number_piece.ensures _ c.in_ok-number.was _ refl

pub returns : goal.returns
returns c = search (rules, entering)
