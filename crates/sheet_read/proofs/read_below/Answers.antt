use borrow.Author.Rules.{rules}
use Rattle.sheet_read.proofs.Whole.{reading}
use Rattle.sheet_read.proofs.read_below.Goals as goal

pub overflow_add-heads : goal.overflow_add-heads
overflow_add-heads c = search (rules, reading)

pub read_rules-read-requires : goal.read_rules-read-requires
read_rules-read-requires c = search (rules, reading)

pub returns-in-Ok : goal.returns-in-Ok
returns-in-Ok c = search (rules, reading)

pub overflow_add-result : goal.overflow_add-result
overflow_add-result c = search (rules, reading)

pub returns-in-Err : goal.returns-in-Err
returns-in-Err c = search (rules, reading)
