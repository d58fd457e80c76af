-- The blank card, written as a next card is; it fits.
use borrow.Author.Rules.{rules}
use Rattle.clerk_check.proofs.Blank.{blank_done}
use Rattle.clerk_check.proofs.put_blank.Goals as goal

pub returns : goal.returns
returns c = search (rules, blank_done)
