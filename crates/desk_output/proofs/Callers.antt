-- What callers use: the output stands within the space, so it may be lent on as a part.
use Prim.Native.Nat.{ℕ, ◌≤◌}
use mathlib.Core.Path.{◌≡◌}
use mathlib.Core.List.{List}
use lib.ListN.{length, take}
use Rattle.meaning.specs.Desk.{desk_output}
use Rattle.sets.specs.Front.{Front}
use Rattle.desk_split.proofs.Callers.{front_within, front_part}

module _ (input o o1 : List ℕ) (n : ℕ) (f : Front (desk_output input) n o o1) where
  pub output_within : n ≤ length o1
  output_within = front_within (desk_output input) o o1 n f

  pub output_part : n ≡ length (take n o1)
  output_part = front_part (desk_output input) o o1 n f

pub ruleset printing = (output_within, output_part)
