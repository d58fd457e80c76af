-- What callers use: the output stands within the space, so it may be lent on as a part.
use Prim.Native.Nat.{ℕ, ◌≤◌}
use mathlib.Core.Path.{◌≡◌}
use mathlib.Core.List.{List}
use lib.ListN.{length, take}
use Rattle.meaning.specs.Clerk.{check_output, blank_output}
use Rattle.sets.specs.Front.{Front}
use Rattle.desk_split.proofs.Callers.{front_within, front_part}

module _ (input o o1 : List ℕ) (n : ℕ) where
  pub check_within : Front (check_output input) n o o1 → n ≤ length o1
  check_within = front_within (check_output input) o o1 n

  pub check_part : Front (check_output input) n o o1 → n ≡ length (take n o1)
  check_part = front_part (check_output input) o o1 n

  pub blank_within : Front (blank_output input) n o o1 → n ≤ length o1
  blank_within = front_within (blank_output input) o o1 n

  pub blank_part : Front (blank_output input) n o o1 → n ≡ length (take n o1)
  blank_part = front_part (blank_output input) o o1 n

pub ruleset printing = (check_within, check_part, blank_within, blank_part)
