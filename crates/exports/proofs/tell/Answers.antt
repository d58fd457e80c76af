-- A reply told: its numbers in the first five places, one behind the other.
use borrow.Author.Rules.{rules}
use Rattle.exports.proofs.Laws.{putting}
use Rattle.exports.proofs.tell.Goals as goal

pub overflow_cast-number : goal.overflow_cast-number
overflow_cast-number c = search (rules, putting)

pub bounds-reply-0 : goal.bounds-reply-0
bounds-reply-0 c = search (rules, putting)

pub overflow_cast-reply : goal.overflow_cast-reply
overflow_cast-reply c = search (rules, putting)

pub bounds-reply-1 : goal.bounds-reply-1
bounds-reply-1 c = search (rules, putting)

pub bounds-reply-2 : goal.bounds-reply-2
bounds-reply-2 c = search (rules, putting)

pub bounds-reply-3 : goal.bounds-reply-3
bounds-reply-3 c = search (rules, putting)

pub overflow_cast-reply-2 : goal.overflow_cast-reply-2
overflow_cast-reply-2 c = search (rules, putting)

pub bounds-reply-4 : goal.bounds-reply-4
bounds-reply-4 c = search (rules, putting)

pub shape_of-reply : goal.shape_of-reply
shape_of-reply c = search (rules, putting)

pub returns : goal.returns
returns c = search (rules, putting)
