-- `name::name_run` answers the length of the longest run of name bytes. The loop: the whole run is what is passed and the run of what is left.
use mathlib.Core.Path.{◌≡◌}
use Prim.Native.Nat.{◌≤◌, ◌+◌}
use lib.ListN.{length, drop}
use Rattle.meaning.specs.Text.{run}
use Rattle.meaning.specs.Name.{name_byte}
use Rattle.name.proofs.name_run.Given as goal

abbrev pub invariant-loop-i : goal.invariant-loop-i
invariant-loop-i l = (l.i ≤ length l.s) × (run name_byte l.s ≡ l.i + run name_byte (drop l.i l.s))
