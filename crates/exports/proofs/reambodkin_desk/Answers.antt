-- The desk's output: nothing where there is too little room, otherwise what is printed.
use borrow.Author.Rules.{rules}
use Rattle.exports.proofs.Laws.{printing}
use Rattle.exports.proofs.reambodkin_desk.Goals as goal

pub returns-then-out-lt-DESK : goal.returns-then-out-lt-DESK
returns-then-out-lt-DESK c = search (rules, printing)

pub desk_output-requires : goal.desk_output-requires
desk_output-requires c = search (rules, printing)

pub shape_of-out : goal.shape_of-out
shape_of-out c = search (rules, printing)

pub returns : goal.returns
returns c = search (rules, printing)
