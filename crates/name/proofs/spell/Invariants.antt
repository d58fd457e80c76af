-- `name::spell` puts the bytes of a kept name. The loop: those of what is left are due at the place reached.
use Prim.Native.Nat.{◌-◌}
use Rattle.theory.specs.Writing.Lent.{Left}
use Rattle.name.specs.Packed.{named_in, named}
use Rattle.name.specs.Names.{spell_room}
use Rattle.name.proofs.spell.Given as goal

abbrev pub invariant-loop-n : goal.invariant-loop-n
invariant-loop-n l = Left l.at (named l.initial.v) l.initial.out l.to (named_in (spell_room - l._n) l.v) l.out
