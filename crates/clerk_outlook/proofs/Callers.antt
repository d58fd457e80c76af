-- What callers use: the output stands within the space, so it may be lent on as a part.
use Prim.Native.Nat.{ℕ, ◌≤◌}
use mathlib.Core.Path.{◌≡◌}
use mathlib.Core.List.{List}
use lib.ListN.{length, take}
use Rattle.meaning.specs.Clerk.{outlook_output}
use Rattle.sets.specs.Front.{Front}
use Rattle.desk_split.proofs.Callers.{front_within, front_part}

module _ (input o o1 : List ℕ) (n : ℕ) (f : Front (outlook_output input) n o o1) where
  pub outlook_within : n ≤ length o1
  outlook_within = front_within (outlook_output input) o o1 n f

  pub outlook_part : n ≡ length (take n o1)
  outlook_part = front_part (outlook_output input) o o1 n f

pub ruleset printing = (outlook_within, outlook_part)
