-- `verdict` answers what the machine ends on. The invariant: running the words that are left from here on is running all of them from the start.
use mathlib.Core.Path.{◌≡◌}
use lib.ListN.{drop}
use Rattle.cond_value.specs.Machine.{run}
use Rattle.cond_value.proofs.verdict.Given as goal

abbrev pub invariant-loop-w : goal.invariant-loop-w
invariant-loop-w l = run l.values l.marks (drop l.w-index l.w-items) l.st ≡ run l.values l.marks l.w-items 0
