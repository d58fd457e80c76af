-- The clerk's output: nothing where there is too little room, otherwise what is printed.
use borrow.Author.Rules.{rules}
use Rattle.exports.proofs.Laws.{printing}
use Rattle.exports.proofs.reambodkin_clerk_blank.Goals as goal

pub returns-then-out-lt-CARD : goal.returns-then-out-lt-CARD
returns-then-out-lt-CARD c = search (rules, printing)

pub blank_output-requires : goal.blank_output-requires
blank_output-requires c = search (rules, printing)

pub shape_of-out : goal.shape_of-out
shape_of-out c = search (rules, printing)

pub returns : goal.returns
returns c = search (rules, printing)
