-- The line of a key and a count: three pieces, one behind the other.
use borrow.Author.Rules.{rules}
use Rattle.clerk_rounds.proofs.Laws.{counting}
use Rattle.clerk_rounds.proofs.put_count.Goals as goal

pub put_text-a-requires : goal.put_text-a-requires
put_text-a-requires c = search (rules, counting)

pub put_byte-b-requires : goal.put_byte-b-requires
put_byte-b-requires c = search (rules, counting)

pub put_number-requires : goal.put_number-requires
put_number-requires c = search (rules, counting)

pub returns : goal.returns
returns c = search (rules, counting)
