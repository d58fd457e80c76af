-- At each turn the bytes from `i` on are still to be put.
use lib.ListN.{drop}
use Rattle.theory.specs.Writing.Lent.{Left}
use Rattle.space.proofs.put_text.Given as goal

abbrev pub invariant-loop-i : goal.invariant-loop-i
invariant-loop-i l = Left l.at l.w l.initial.out l.to (drop l.i l.w) l.out
