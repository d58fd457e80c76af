-- `event_read::event_line` meets its contract. The event is named, its pairs are read behind its name, and the line ends; the first that is wrong decides.
use borrow.Author.Rules.{rules}
use Rattle.text.proofs.Exits.{left_by}
use Rattle.event_read.proofs.Events.{event_lining}
use Rattle.event_read.proofs.event_line.Goals as goal

pub returns-in_err-e : goal.returns-in_err-e
returns-in_err-e c = left_by c.from_residual.ensures (search (rules, event_lining, c.in_err-e.was))

pub returns-in_err-p : goal.returns-in_err-p
returns-in_err-p c = left_by c.from_residual-in_err-p.ensures (search (rules, event_lining, c.in_ok-e.was, c.in_err-p.was))

pub returns-in-Err : goal.returns-in-Err
returns-in-Err c = search (rules, event_lining, c.in_ok-e.was, c.in_ok-p.was)

pub returns-in-Ok : goal.returns-in-Ok
returns-in-Ok c = search (rules, event_lining, c.in_ok-e.was, c.in_ok-p.was)

pub read_puts-requires : goal.read_puts-requires
read_puts-requires c = search (rules, event_lining, c.in_ok-e.was)

pub overflow_add-result : goal.overflow_add-result
overflow_add-result c = search (rules, event_lining)
