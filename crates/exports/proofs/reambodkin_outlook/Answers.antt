-- The outlook told: ROOM where there are too few places, otherwise what the door answers.
use borrow.Author.Rules.{rules}
use Rattle.exports.proofs.Laws.{telling}
use Rattle.exports.proofs.reambodkin_outlook.Goals as goal

pub returns-then-reply-lt5 : goal.returns-then-reply-lt5
returns-then-reply-lt5 c = search (rules, telling)

pub outlook-told-requires : goal.outlook-told-requires
outlook-told-requires c = search (rules, telling)

pub tell-requires : goal.tell-requires
tell-requires c = search (rules, telling)

pub shape_of-out : goal.shape_of-out
shape_of-out c = search (rules, telling)

pub shape_of-reply : goal.shape_of-reply
shape_of-reply c = search (rules, telling)

pub returns : goal.returns
returns c = search (rules, telling)
