-- `event_read::read_puts` meets its contract. Before pair i the tables hold the i pairs read, and what is still to be read gives the whole.
use Prim.Native.Nat.{◌≤◌}
use Rattle.meaning.specs.Limits.{field_limit}
use Rattle.event_read.proofs.Events.{PutsAt}
use Rattle.event_read.proofs.read_puts.Given as goal

abbrev pub invariant-loop-i : goal.invariant-loop-i
invariant-loop-i l = (l.count ≤ field_limit) × PutsAt l.h l.s l.event l.from l.count l.at l.fields l.values l.starts l.lengths l.i
