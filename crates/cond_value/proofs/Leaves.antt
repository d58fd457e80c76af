-- The words of a condition and its leaves stand in the same order, so whatever its leaves' words say, one after another, the leaves say. The joining words say
-- nothing.
use Prim.Native.Nat.{ℕ}
use mathlib.Core.Path.{◌≡◌, refl, sym, ◌∙◌, ap, ap₂}
use mathlib.Core.Bool.{Bool, true, false, not}
use mathlib.Core.List.{List, [], ◌++◌, append-nil}
use mathlib.Core.Logic.{inl}
use Rattle.meaning.specs.Text.{In, joined}
use Rattle.meaning.specs.Condition.{Leaf, Cond, And, Item, leaves_c, leaves_a, leaves_i}
use Rattle.theory.specs.Lists.Members.{in_left, in_right, joined_both, joined_one}
use Rattle.cond_value.specs.Flat.{bit, leaf_word, join, words_c, words_a, words_i, words}

module _ {A : Type 0} (says : ℕ → List A) (means : Leaf → List A) (none_joining : (k : Bool) → says (bit k) ≡ []) where
  -- each leaf's word says what the leaf means
  abbrev Said : List Leaf → Type 0
  Said xs = (neg : Bool) (x : Leaf) → In x xs → says (leaf_word neg x) ≡ means x

  join_none : (joins k : Bool) → joined says (join joins (bit k)) ≡ []
  unfolding joined
  join_none false k = refl
  join_none true k = joined_one says (bit k) ∙ none_joining k

  words_last : (xs : List ℕ) (joins k : Bool) → joined says (xs ++ join joins (bit k)) ≡ joined says xs
  words_last xs joins k = joined_both says xs (join joins (bit k)) ∙ ap (λ l. joined says xs ++ l) (join_none joins k) ∙ append-nil (joined says xs)

  words_more : (xs ys : List ℕ) (joins k : Bool) → joined says (xs ++ (join joins (bit k) ++ ys)) ≡ joined says xs ++ joined says ys
  words_more xs ys joins k =
      joined_both says xs (join joins (bit k) ++ ys)
      ∙ ap (λ l. joined says xs ++ l) (joined_both says (join joins (bit k)) ys ∙ ap (λ l. l ++ joined says ys) (join_none joins k))

  mutual
    unfolding words_c words_a words_i leaves_c leaves_a leaves_i

    cond_words : (neg joins : Bool) (c : Cond) → Said (leaves_c c) → joined says (words_c neg joins c) ≡ joined means (leaves_c c)
    cond_words neg joins (Cond.only a) h = words_last (words_a neg false a) joins (not neg) ∙ and_words neg false a h
    cond_words neg joins (Cond.or a c) h =
        words_more (words_a neg false a) (words_c neg true c) joins (not neg)
        ∙ ap₂ (λ x y. x ++ y) (and_words neg false a (λ n x i. h n x (in_left x (leaves_a a) (leaves_c c) i)))
        (cond_words neg true c (λ n x i. h n x (in_right x (leaves_a a) (leaves_c c) i)))
        ∙ sym (joined_both means (leaves_a a) (leaves_c c))

    and_words : (neg joins : Bool) (a : And) → Said (leaves_a a) → joined says (words_a neg joins a) ≡ joined means (leaves_a a)
    and_words neg joins (And.just i) h = words_last (words_i neg i) joins neg ∙ item_words neg i h
    and_words neg joins (And.and i a) h =
        words_more (words_i neg i) (words_a neg true a) joins neg
        ∙ ap₂ (λ x y. x ++ y) (item_words neg i (λ n x j. h n x (in_left x (leaves_i i) (leaves_a a) j)))
        (and_words neg true a (λ n x j. h n x (in_right x (leaves_i i) (leaves_a a) j)))
        ∙ sym (joined_both means (leaves_i i) (leaves_a a))

    item_words : (neg : Bool) (i : Item) → Said (leaves_i i) → joined says (words_i neg i) ≡ joined means (leaves_i i)
    item_words neg (Item.leaf x) h = joined_one says (leaf_word neg x) ∙ h neg x (inl refl) ∙ sym (joined_one means x)
    item_words neg (Item.neg i) h = item_words (not neg) i h
    item_words neg (Item.group c) h = cond_words neg false c h

  pub words_leaves : (c : Cond) → ((neg : Bool) (x : Leaf) → In x (leaves_c c) → says (leaf_word neg x) ≡ means x)
      → joined says (words c) ≡ joined means (leaves_c c)
  unfolding words
  words_leaves c h = cond_words false false c h
