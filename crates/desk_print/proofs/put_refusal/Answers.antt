-- The line of a refusal: its key, then its three numbers.
use borrow.Author.Rules.{rules}
use Rattle.desk_print.proofs.Laws.{refusing}
use Rattle.desk_print.proofs.put_refusal.Goals as goal

pub put_number-b-requires : goal.put_number-b-requires
put_number-b-requires c = search (rules, refusing)

pub put_number-c-requires : goal.put_number-c-requires
put_number-c-requires c = search (rules, refusing)

pub put_number-requires : goal.put_number-requires
put_number-requires c = search (rules, refusing)

pub returns : goal.returns
returns c = search (rules, refusing)
