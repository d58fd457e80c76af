-- `name::find` answers the first place of a number in the part of the table. The loop: the answer is that of what is left, moved by what is passed.
use mathlib.Core.Path.{◌≡◌}
use Prim.Native.Nat.{◌≤◌, ◌-◌}
use lib.ListN.{take, drop}
use Rattle.name.specs.Names.{kept_in}
use Rattle.name.specs.Answers.{found_in}
use Rattle.name.proofs.Laws.{shifted}
use Rattle.name.proofs.find.Given as goal

abbrev pub invariant-loop-i : goal.invariant-loop-i
invariant-loop-i l =
    (l.from ≤ l.i) × (found_in l.w (take (l.to - l.from) (drop l.from (kept_in l.names)))
    ≡ shifted (l.i - l.from) (found_in l.w (take (l.to - l.i) (drop l.i (kept_in l.names)))))
