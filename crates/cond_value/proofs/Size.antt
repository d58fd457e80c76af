-- How long the flat form is, and how large its words are.
use Prim.Native.Nat.{ℕ, ◌+◌, ◌*◌}
use mathlib.Core.Path.{◌≡◌, refl}
use mathlib.Core.Bool.{Bool, true, false, not}
use mathlib.Core.List.{◌++◌}
use native.Mathlib.Omega.{arith}
use lib.ListN.{length, length-append}
use Rattle.meaning.specs.Condition.{Cond, And, Item, leaves_c, leaves_a, leaves_i}
use Rattle.cond_value.specs.Flat.{bit, join, words_c, words_a, words_i, words}

-- a joining word is one word
pub join_length : (j : Bool) (k : ℕ) → length (join j k) ≡ bit j
join_length false k = refl
join_length true k = refl

mutual
  unfolding words_c leaves_c

  -- n leaves are 2n - 1 words, and one more where they are joined to what stands before
  pub length_c : (b j : Bool) (c : Cond) → length (words_c b j c) + 1 ≡ 2 * length (leaves_c c) + bit j
  length_c b j (Cond.only a) = omega (arith, length_a b false a, join_length j (bit (not b)), length-append (words_a b false a) (join j (bit (not b))))
  length_c b j (Cond.or a c) = omega (
    arith,
    length_a b false a,
    length_c b true c,
    join_length j (bit (not b)),
    length-append (words_a b false a) (join j (bit (not b)) ++ words_c b true c),
    length-append (join j (bit (not b))) (words_c b true c),
    length-append (leaves_a a) (leaves_c c),
  )

  pub length_a : (b j : Bool) (a : And) → length (words_a b j a) + 1 ≡ 2 * length (leaves_a a) + bit j
  length_a b j (And.just i) = omega (arith, length_i b i, join_length j (bit b), length-append (words_i b i) (join j (bit b)))
  length_a b j (And.and i a) = omega (
    arith,
    length_i b i,
    length_a b true a,
    join_length j (bit b),
    length-append (words_i b i) (join j (bit b) ++ words_a b true a),
    length-append (join j (bit b)) (words_a b true a),
    length-append (leaves_i i) (leaves_a a),
  )

  pub length_i : (b : Bool) (i : Item) → length (words_i b i) + 1 ≡ 2 * length (leaves_i i)
  length_i b (Item.leaf x) = refl
  length_i b (Item.neg i) = length_i (not b) i
  length_i b (Item.group c) = omega (arith, length_c b false c)

-- a condition of n leaves is 2n - 1 words
pub words_length : (c : Cond) → length (words c) + 1 ≡ 2 * length (leaves_c c)
unfolding words
words_length c = omega (arith, length_c false false c)
