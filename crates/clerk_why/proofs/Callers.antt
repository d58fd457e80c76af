-- What callers use: the output stands within the space, so it may be lent on as a part.
use Prim.Native.Nat.{ℕ, ◌≤◌}
use mathlib.Core.Path.{◌≡◌}
use mathlib.Core.List.{List}
use lib.ListN.{length, take}
use Rattle.meaning.specs.Clerk.{why_output}
use Rattle.sets.specs.Front.{Front}
use Rattle.desk_split.proofs.Callers.{front_within, front_part}

module _ (input o o1 : List ℕ) (n : ℕ) (f : Front (why_output input) n o o1) where
  pub why_within : n ≤ length o1
  why_within = front_within (why_output input) o o1 n f

  pub why_part : n ≡ length (take n o1)
  why_part = front_part (why_output input) o o1 n f

pub ruleset printing = (why_within, why_part)
