-- No second answer fits: the contracts of the public functions determine what they answer, and the lent space.
use Prim.Native.Nat.{ℕ}
use mathlib.Core.Path.{◌≡◌, sym, ◌∙◌, ap}
use mathlib.Core.List.{List, ◌++◌}
use lib.ListN.{drop}
use Rattle.theory.specs.Determined.{Determines, Settles, only}
use Rattle.sets.specs.Front.{Front}
use Rattle.sets.proofs.insert.Reads as Insert
use Rattle.sets.proofs.copy_front.Reads as CopyFront

-- whatever the list
module _ {l b a c : List ℕ} {n m : ℕ} (f : Front l n b a) (g : Front l m b c) where
  pub front_count_only : n ≡ m
  front_count_only = only f.count g.count

  pub front_space_only : a ≡ c
  front_space_only = only f.list (g.list ∙ ap (λ k. l ++ drop k b) (sym front_count_only))

pub insert_count_only : Determines Insert.Learnt
insert_count_only κs a r q s t h g = only h.count g.count

-- the lent space is the first parameter
pub insert_space_only : Settles Insert.Learnt (λ κs r s. s.0.now)
insert_space_only κs a r q s t h g = front_space_only h g

-- the lent space is the third parameter
pub copy_front_only : Settles CopyFront.Learnt (λ κs r s. s.1.1.0.now)
copy_front_only κs a r q s t = only
