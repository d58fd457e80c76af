-- The outlook at the moment of card and event line.
use borrow.Author.Rules.{rules}
use Rattle.desk_output.proofs.Laws.{listing}
use Rattle.desk_output.proofs.put_coming.Goals as goal

pub moment_of-moment-requires : goal.moment_of-moment-requires
moment_of-moment-requires c = search (rules, listing)

pub put_outlook-requires : goal.put_outlook-requires
put_outlook-requires c = search (rules, listing)

pub shape_of-out : goal.shape_of-out
shape_of-out c = search (rules, listing)

pub returns : goal.returns
returns c = search (rules, listing)
