use borrow.Author.Rules.{rules}
use Rattle.number.proofs.Ends.{closing}
use Rattle.number.proofs.closing.Goals as goal

pub returns-then-not-starts : goal.returns-then-not-starts
returns-then-not-starts c = search (rules, closing)

pub returns-then-s-ne1 : goal.returns-then-s-ne1
returns-then-s-ne1 c = search (rules, closing)

pub returns : goal.returns
returns c = search (rules, closing)
