-- `name::name_len` answers how long a kept name is. The loop: the whole is what is passed and the symbols of what is left.
use mathlib.Core.Path.{◌≡◌}
use Prim.Native.Nat.{◌+◌, ◌-◌, ◌≤◌}
use lib.ListN.{length}
use Rattle.name.specs.Packed.{named_in, named}
use Rattle.name.specs.Names.{spell_room}
use Rattle.name.proofs.name_len.Given as goal

abbrev pub invariant-loop-n : goal.invariant-loop-n
invariant-loop-n l = (l.n ≤ spell_room) × (length (named l.initial.v) ≡ l.n + length (named_in (spell_room - l.n) l.v))
