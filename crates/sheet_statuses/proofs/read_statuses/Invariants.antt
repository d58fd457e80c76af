-- At each turn the rest of the section begins at the place come to, behind the statuses in the tables.
use Prim.Native.Nat.{◌+◌, ◌-◌}
use Rattle.meaning.specs.Limits.{status_limit}
use Rattle.sheet_statuses.proofs.Statuses.{Statuses}
use Rattle.sheet_statuses.proofs.read_statuses.Given as goal

abbrev pub invariant-lines : goal.invariant-lines
invariant-lines l = Statuses l.s l.key l.fn.before l.miles l.above

abbrev pub decreases-lines : goal.decreases-lines
decreases-lines l = status_limit - (l.above.heads.stages + l.above.heads.miles)
