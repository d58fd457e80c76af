-- `name::pack` answers the packed name. The loop: the bytes behind the cursor are packed, at most 11 of them before a turn, so that the sum fits.
use mathlib.Core.Path.{◌≡◌}
use Prim.Native.Nat.{◌≤◌}
use lib.ListN.{take, drop}
use Rattle.name.specs.Packed.{packed}
use Rattle.name.proofs.pack.Given as goal

abbrev pub invariant-loop-i : goal.invariant-loop-i
invariant-loop-i l = (l.i ≤ l.n) × (l.w ≡ packed (drop l.i (take l.n l.s)))
