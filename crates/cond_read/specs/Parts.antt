-- What the private readers answer: of a part of a condition that its words stand from `top` on.
use Rattle.std.specs.Prelude.{ℕ, suc, ◌≡◌, Bool, false, List, Result}
use Rattle.meaning.specs.Limits.{leaf_limit}
use Rattle.meaning.specs.Reading.{Got, Reader}
use Rattle.meaning.specs.Name.{Name}
use Rattle.meaning.specs.Condition.{Leaf, Cond, And, Item, leaves_c, leaves_a, leaves_i}
use Rattle.meaning.specs.ReadCondition.{read_and, read_cond, read_item}
use Rattle.reply.specs.declared.Fault.{Fault}
use Rattle.cond_value.specs.Flat.{words_c, words_a, words_i}
use Rattle.cond_item.specs.declared.Place.{Place}
use Rattle.cond_item.specs.Answers.{as_place, Stored}

-- parts of one kind: their words and leaves, and their reader behind so many leaves
pub record Kind : Type 1 where
  pub T : Type 0
  pub words : T → List ℕ
  pub leaves : T → List Leaf
  pub read : ℕ → Reader T

-- the three kinds, negated or not; d more nots and groups may stand around each other
module _ (st fd : List Name) (neg : Bool) where
  unfoldable pub items : ℕ → Kind
  items d = record { T = Item; words = words_i neg; leaves = leaves_i; read = read_item st fd d }

  unfoldable pub and_lists : ℕ → Kind
  and_lists d = record { T = And; words = words_a neg false; leaves = leaves_a; read = read_and (read_item st fd d) (suc leaf_limit) }

  unfoldable pub conditions : ℕ → Kind
  conditions d = record { T = Cond; words = words_c neg false; leaves = leaves_c; read = read_cond (read_item st fd d) (suc leaf_limit) }

-- a part read at the start of s, behind `top` words and `leaves` leaves
abbrev pub as_part : (K : Kind) → List ℕ → ℕ → ℕ → Got K.T → Result Place Fault
as_part K s top leaves g = as_place K.words K.leaves s top leaves g

-- the answer, and the lent words: where the part is refused, those below `top` are as they were
pub record Gives (K : Kind) (s : List ℕ) (top leaves : ℕ) (r : Result Place Fault) (was is : List ℕ) : Type 0 where
  pub answer : r ≡ as_part K s top leaves (K.read leaves 0 s)
  pub space : Stored K.words was is top (K.read leaves 0 s)
