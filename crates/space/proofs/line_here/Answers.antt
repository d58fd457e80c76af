-- A line, put piece by piece: its key, `=`, its value and LF.
use borrow.Author.Rules.{rules}
use Rattle.space.proofs.Laws.{lining}
use Rattle.space.proofs.line_here.Goals as goal

pub put-a-requires : goal.put-a-requires
put-a-requires g c = search (rules, lining)

pub put_byte-b-requires : goal.put_byte-b-requires
put_byte-b-requires g c = search (rules, lining)

pub put-c-requires : goal.put-c-requires
put-c-requires g c = search (rules, lining)

pub put_byte-requires : goal.put_byte-requires
put_byte-requires g c = search (rules, lining)

pub returns : goal.returns
returns g c = search (rules, lining)
