-- The clerk's output: nothing where there is too little room, otherwise what is printed.
use borrow.Author.Rules.{rules}
use Rattle.exports.proofs.Laws.{printing}
use Rattle.exports.proofs.reambodkin_clerk_check.Goals as goal

pub returns-then-out-lt-CHECK : goal.returns-then-out-lt-CHECK
returns-then-out-lt-CHECK c = search (rules, printing)

pub check_output-requires : goal.check_output-requires
check_output-requires c = search (rules, printing)

pub shape_of-out : goal.shape_of-out
shape_of-out c = search (rules, printing)

pub returns : goal.returns
returns c = search (rules, printing)
