-- At each line the rest of the section begins at the place come to, behind the events in the tables; at each piece the rest of the line does, behind the fields
-- that are carried so far.
use Prim.Native.Nat.{◌-◌}
use Rattle.meaning.specs.Limits.{event_limit}
use Rattle.name.specs.Names.{names_in}
use Rattle.sheet_events.proofs.Pieces.{Pieces}
use Rattle.sheet_events.proofs.Events.{Events}
use Rattle.sheet_events.proofs.scan_events.Given as goal

abbrev pub invariant-pieces : goal.invariant-pieces
invariant-pieces l = Pieces l.t (names_in l.above.heads.names) l.above.heads.fields l.carried l.count l.at

abbrev pub decreases-pieces : goal.decreases-pieces
decreases-pieces l = l.above.heads.fields - l.count

abbrev pub invariant-scan : goal.invariant-scan
invariant-scan l = Events l.s l.fn.before l.above

abbrev pub decreases-scan : goal.decreases-scan
decreases-scan l = event_limit - l.above.heads.events
