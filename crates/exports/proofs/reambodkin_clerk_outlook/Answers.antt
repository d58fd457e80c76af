-- The clerk's output: nothing where there is too little room, otherwise what is printed.
use borrow.Author.Rules.{rules}
use Rattle.exports.proofs.Laws.{printing}
use Rattle.exports.proofs.reambodkin_clerk_outlook.Goals as goal

pub returns-then-out-lt-NAMED : goal.returns-then-out-lt-NAMED
returns-then-out-lt-NAMED c = search (rules, printing)

pub outlook_output-requires : goal.outlook_output-requires
outlook_output-requires c = search (rules, printing)

pub shape_of-out : goal.shape_of-out
shape_of-out c = search (rules, printing)

pub returns : goal.returns
returns c = search (rules, printing)
