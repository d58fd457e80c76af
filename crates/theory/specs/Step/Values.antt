-- Conditions on two sides: values that are related at every leaf are related of the whole, for any relation that Kleene's tables keep.
use Rattle.std.specs.Prelude.{ℕ, ◌≡◌, refl, List}
use Rattle.std.proofs.Common.{ap, ap₂, inl}
use Rattle.meaning.specs.Text.{In}
use Rattle.meaning.specs.Kleene.{Kleene, not₃, and₃, or₃}
use Rattle.meaning.specs.Number.{Value}
use Rattle.meaning.specs.Condition.{Leaf, Cond, And, Item, leaves_c, leaves_a, leaves_i, value_l, value_c, value_a, value_i}
use Rattle.theory.specs.Lists.Members.{in_left, in_right}

-- a relation of values that not, and, or keep
pub record Kept (R : Kleene → Kleene → Type 0) : Type 0 where
  pub by_not : (a b : Kleene) → R a b → R (not₃ a) (not₃ b)
  pub by_and : (a b c d : Kleene) → R a b → R c d → R (and₃ a c) (and₃ b d)
  pub by_or : (a b c d : Kleene) → R a b → R c d → R (or₃ a c) (or₃ b d)

module _ (R : Kleene → Kleene → Type 0) (kept : Kept R) (st su : ℕ → Kleene) (fd fe : ℕ → Value) where
  -- the leaves are related
  abbrev pub AtLeaves : List Leaf → Type 0
  AtLeaves xs = (x : Leaf) → In x xs → R (value_l st fd x) (value_l su fe x)

  mutual
    unfolding value_c value_a value_i leaves_c leaves_a leaves_i

    pub value_kept : (c : Cond) → AtLeaves (leaves_c c) → R (value_c st fd c) (value_c su fe c)
    value_kept (Cond.only a) h = and_kept a h
    value_kept (Cond.or a c) h =
        kept.by_or _ _ _ _ (and_kept a (λ x i. h x (in_left x (leaves_a a) (leaves_c c) i)))
        (value_kept c (λ x i. h x (in_right x (leaves_a a) (leaves_c c) i)))

    and_kept : (a : And) → AtLeaves (leaves_a a) → R (value_a st fd a) (value_a su fe a)
    and_kept (And.just i) h = item_kept i h
    and_kept (And.and i a) h =
        kept.by_and _ _ _ _ (item_kept i (λ x j. h x (in_left x (leaves_i i) (leaves_a a) j)))
        (and_kept a (λ x j. h x (in_right x (leaves_i i) (leaves_a a) j)))

    item_kept : (i : Item) → AtLeaves (leaves_i i) → R (value_i st fd i) (value_i su fe i)
    item_kept (Item.leaf x) h = h x (inl refl)
    item_kept (Item.neg i) h = kept.by_not _ _ (item_kept i h)
    item_kept (Item.group c) h = value_kept c h

-- equality is such a relation: a condition's value is determined by those of its leaves
pub value_same : (st su : ℕ → Kleene) (fd fe : ℕ → Value) (c : Cond) → ((x : Leaf) → In x (leaves_c c) → value_l st fd x ≡ value_l su fe x)
    → value_c st fd c ≡ value_c su fe c
value_same = value_kept (λ a b. a ≡ b) (record { by_not = λ a b e. ap not₃ e; by_and = λ a b c d e f. ap₂ and₃ e f; by_or = λ a b c d e f. ap₂ or₃ e f })
