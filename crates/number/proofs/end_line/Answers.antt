use mathlib.Core.Path.{◌≡◌, ap}
use mathlib.Core.Bool.{not}
use borrow.Author.Rules.{rules}
use Rattle.std.specs.Prelude.{Ok}
use Rattle.number.proofs.Ends.{ending, line_miscounted}
use Rattle.number.proofs.end_line.Goals as goal

pub returns-then-not-starts : goal.returns-then-not-starts
returns-then-not-starts c = search (rules, ending)

pub returns-in_err-number : goal.returns-in_err-number
returns-in_err-number c = search (rules, ending)

pub returns-then-not-is_count : goal.returns-then-not-is_count
returns-then-not-is_count c =
    let q : c.number_piece.result ≡ Ok c.in_ok-number.number = search rules in
    line_miscounted _ _ _ c.starts.ensures (ap not c.if-not-starts.false) _ _
    c.rest-told.ensures c.number_piece.ensures _ q _ c.is_count.ensures (ap not c.if-not-is_count.true)

pub returns : goal.returns
returns c = search (rules, ending)
