-- The flat form of a condition: words in postfix order, `not` pushed down to the leaves, so that n leaves are 2n - 1 words.
use Rattle.std.specs.Prelude.{ℕ, suc, ◌+◌, ◌*◌, Bool, true, false, not, List, [], ◌∷◌, ◌++◌}
use Rattle.meaning.specs.Condition.{Operator, below, at_most, equal, at_least, above, Leaf, Cond, And, Item}

-- a word: its kind, below 8, the place of a status or field, below 32, and a number
unfoldable pub word : ℕ → ℕ → ℕ → ℕ
word kind place number = kind + 8 * (place + 32 * number)

abbrev pub bit : Bool → ℕ
bit false = 0
bit true = 1

-- The kinds: 0 an and, 1 an or, 2 a status, 4 a field below a number, 6 a field equal to a number; each leaf 1 more where it is negated.
-- Values are places and 1 more (0 is `?`), and so are the numbers they are compared with.
unfoldable pub comparison_word : Bool → ℕ → Operator → ℕ → ℕ
comparison_word neg f below k = word (4 + bit neg) f (suc k)
comparison_word neg f at_most k = word (4 + bit neg) f (suc (suc k))
comparison_word neg f equal k = word (6 + bit neg) f (suc k)
comparison_word neg f at_least k = word (4 + bit (not neg)) f (suc k)
comparison_word neg f above k = word (4 + bit (not neg)) f (suc (suc k))

unfoldable pub leaf_word : Bool → Leaf → ℕ
leaf_word neg (Leaf.status x) = word (2 + bit neg) x 0
leaf_word neg (Leaf.compare c) = comparison_word neg c.field c.operator c.number

-- the joining word, where something stands before in the list
abbrev pub join : Bool → ℕ → List ℕ
join false k = []
join true k = k ∷ []

-- The words of a condition, negated or not, and joined to what stands before it or not. Under a `not` an and is an or, and an or an and.
unfoldable mutual
  pub words_c : Bool → Bool → Cond → List ℕ
  words_c neg joined (Cond.only a) = words_a neg false a ++ join joined (bit (not neg))
  words_c neg joined (Cond.or a c) = words_a neg false a ++ (join joined (bit (not neg)) ++ words_c neg true c)

  pub words_a : Bool → Bool → And → List ℕ
  words_a neg joined (And.just i) = words_i neg i ++ join joined (bit neg)
  words_a neg joined (And.and i a) = words_i neg i ++ (join joined (bit neg) ++ words_a neg true a)

  pub words_i : Bool → Item → List ℕ
  words_i neg (Item.leaf x) = leaf_word neg x ∷ []
  words_i neg (Item.neg i) = words_i (not neg) i
  words_i neg (Item.group c) = words_c neg false c

-- the words of a whole condition
unfoldable pub words : Cond → List ℕ
words c = words_c false false c
