-- The conditions that the machine values rightly, and whose words are numbers of 64 bits.
use Rattle.std.specs.Prelude.{ℕ, suc, ◌≤◌}
use Rattle.meaning.specs.Text.{In}
use Rattle.meaning.specs.Limits.{status_limit, field_limit, nest_limit, highest}
use Rattle.meaning.specs.Condition.{Leaf, Cond, And, Item, leaves_c}
use Rattle.theory.specs.Papers.Conditions.{LeavesIn}

-- nots and groups nest at most d deep
mutual
  pub data DeepC : ℕ → Cond → Type 0 where
    only : {d : ℕ} {a : And} → DeepA d a → DeepC d (Cond.only a)
    or : {d : ℕ} {a : And} {c : Cond} → DeepA d a → DeepC d c → DeepC d (Cond.or a c)

  pub data DeepA : ℕ → And → Type 0 where
    just : {d : ℕ} {i : Item} → DeepI d i → DeepA d (And.just i)
    and : {d : ℕ} {i : Item} {a : And} → DeepI d i → DeepA d a → DeepA d (And.and i a)

  pub data DeepI : ℕ → Item → Type 0 where
    leaf : {d : ℕ} {x : Leaf} → DeepI d (Item.leaf x)
    neg : {d : ℕ} {i : Item} → DeepI d i → DeepI (suc d) (Item.neg i)
    group : {d : ℕ} {c : Cond} → DeepC d c → DeepI (suc d) (Item.group c)

-- a leaf whose number, if it has one, lies on the scale
abbrev pub OnScale : Leaf → Type 0
OnScale (Leaf.status x) = Unit {0}
OnScale (Leaf.compare c) = c.number ≤ highest

-- statuses have places below 32 and fields below 16, numbers lie on the scale, and nots and groups nest at most 8 deep
pub record Fits (c : Cond) : Type 0 where
  pub placed : LeavesIn status_limit field_limit (leaves_c c)
  pub on_scale : (x : Leaf) → In x (leaves_c c) → OnScale x
  pub deep : DeepC nest_limit c
