-- The line of one edge of the circle: its two nodes are looked up, and its line.
use borrow.Author.Rules.{rules}
use Rattle.clerk_rounds.proofs.Laws.{held_at, place_room, placing}
use Rattle.clerk_rounds.proofs.put_place.Goals as goal

pub told_on-requires : goal.told_on-requires
told_on-requires c = search (rules, held_at)

pub put_edge-requires : goal.put_edge-requires
put_edge-requires c = (search rules, search (rules, held_at), search (rules, held_at), search place_room)

pub returns : goal.returns
returns c = search placing
