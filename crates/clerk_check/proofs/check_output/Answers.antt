-- The sheet's refusal, or what is told of a sheet in order.
use borrow.Author.Rules.{rules}
use Rattle.desk_rooms.specs.Rooms.{check_room}
use Rattle.desk_rooms.proofs.Callers.{refusal_room}
use Rattle.clerk_check.proofs.Check.{checking}
use Rattle.clerk_check.proofs.check_output.Goals as goal

pub put_refusal-requires : goal.put_refusal-requires
put_refusal-requires c = search (rules, refusal_room check_room tt)

pub returns-in-Err : goal.returns-in-Err
returns-in-Err c = search (rules, checking)

pub tests_of-tests-requires : goal.tests_of-tests-requires
tests_of-tests-requires c = search (rules, checking)

pub put_sheet-requires : goal.put_sheet-requires
put_sheet-requires c = search (rules, checking)

pub returns : goal.returns
returns c = search (rules, checking)
