-- Sheet, then card, then event line; the first refusal decides.
use borrow.Author.Rules.{rules}
use Rattle.case_read.proofs.Laws.{reading}
use Rattle.case_read.proofs.read_case.Goals as goal

pub returns-then-accepted-ne0 : goal.returns-then-accepted-ne0
returns-then-accepted-ne0 c = search (rules, reading)

pub read_card-requires : goal.read_card-requires
read_card-requires c = search (rules, reading)

pub returns-in-Err : goal.returns-in-Err
returns-in-Err c = search (rules, reading)

pub read_event-requires : goal.read_event-requires
read_event-requires c = search (rules, reading)

pub returns-in-Err-read_event : goal.returns-in-Err-read_event
returns-in-Err-read_event c = search (rules, reading)

pub returns : goal.returns
returns c = search (rules, reading)
