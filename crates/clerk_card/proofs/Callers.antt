-- What callers use: the output stands within the space, so it may be lent on as a part.
use Prim.Native.Nat.{ℕ, ◌≤◌}
use mathlib.Core.Path.{◌≡◌}
use mathlib.Core.List.{List}
use lib.ListN.{length, take}
use Rattle.meaning.specs.Clerk.{card_output}
use Rattle.sets.specs.Front.{Front}
use Rattle.desk_split.proofs.Callers.{front_within, front_part}

module _ (input o o1 : List ℕ) (n : ℕ) (f : Front (card_output input) n o o1) where
  pub card_within : n ≤ length o1
  card_within = front_within (card_output input) o o1 n f

  pub card_part : n ≡ length (take n o1)
  card_part = front_part (card_output input) o o1 n f

pub ruleset printing = (card_within, card_part)
