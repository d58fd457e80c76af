-- What `clerk outlook` prints for a case, on the tables of one that was read.
use Rattle.std.specs.Prelude.{ℕ, ◌≤◌, List, length}
use Rattle.meaning.specs.Clerk.{prospects_told}
use Rattle.step_moment.specs.Tables.{moment_of}
use Rattle.case_read.specs.declared.Case.{Case}
use Rattle.outlook_case.specs.Patterns.{Ready, answer_of}
use Rattle.desk_rooms.specs.Rooms.{named_room}
use Rattle.clerk_prospects.specs.Lines.{status_names_of}

-- the lines of the statuses and of the patterns, or `outlook=refused` where there are too many parts
unfoldable pub named_text : Case → List ℕ
named_text x = prospects_told (status_names_of x.sheet.heads) (answer_of x.sheet (moment_of x.card x.happening))

-- what a caller sees to: a case within its limits, whose lines fit the space
pub record Named (x : Case) : Type 0 where
  pub ready : Ready x.sheet (moment_of x.card x.happening)
  pub room : length (named_text x) ≤ named_room
