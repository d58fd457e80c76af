-- The clerk's output: nothing where there is too little room, otherwise what is printed.
use borrow.Author.Rules.{rules}
use Rattle.exports.proofs.Laws.{printing}
use Rattle.exports.proofs.reambodkin_clerk_why.Goals as goal

pub returns-then-out-lt-WHY : goal.returns-then-out-lt-WHY
returns-then-out-lt-WHY c = search (rules, printing)

pub why_output-requires : goal.why_output-requires
why_output-requires c = search (rules, printing)

pub shape_of-out : goal.shape_of-out
shape_of-out c = search (rules, printing)

pub returns : goal.returns
returns c = search (rules, printing)
