-- What callers use: the codes of a field's cuts, from the words of a sheet's conditions, are those of the sheet's cuts; and how many they are.
use Prim.Native.Nat.{ℕ, suc, ◌+◌, ◌-◌, ◌*◌, ◌≤◌, ◌<◌}
use mathlib.Core.Path.{◌≡◌, refl, sym, ◌∙◌, ap}
use mathlib.Core.Bool.{Bool, true, false, not, cond, ◌&&◌, beq}
use mathlib.Core.List.{List, [], ◌∷◌, ◌++◌, map, append-nil}
use mathlib.Core.Option.{Option, none, some}
use native.Mathlib.Omega.{arith}
use native.Mathlib.Decide.{dec_lt, dec_le}
use lib.Dec.{leb, eqb}
use lib.ListN.{length, length-append}
use borrow.Author.Tests.{eq-eqb, ne_eqb, lt-ltb, le-ltb, le-leb, lt-leb}
use Rattle.meaning.specs.Text.{In, keep, joined}
use Rattle.meaning.specs.Limits.{highest, field_limit, status_limit}
use Rattle.meaning.specs.Condition.{Operator, below, at_most, equal, at_least, above, Comparison, Leaf, Cond, answers, leaves_c}
use Rattle.meaning.specs.Sheet.{Sheet, Rule, leaves_of, leaves}
use Rattle.meaning.specs.Tests.{tests}
use Rattle.meaning.specs.Outlook.{insert, ascending, compares, comparisons, cuts_at, cuts}
use Rattle.theory.specs.Lists.Members.{joined_one, joined_same, map_joined, joined_twice}
use Rattle.theory.specs.Papers.Conditions.{LeafIn}
use Rattle.theory.specs.Lists.Ascending.{Placing, lower, higher, placing, insert_lower, insert_equal, insert_higher, ascending_few}
use Rattle.cond_value.specs.Flat.{word, bit, comparison_word, leaf_word, words}
use Rattle.cond_value.specs.Fits.{Fits}
use Rattle.cond_value.proofs.Words.{bit_small, kind_of_lem, field_of, number_of}
use Rattle.theory.specs.Step.SheetTests.{leaves_same}
use Rattle.cond_value.proofs.Leaves.{words_leaves}
use Rattle.outlook_cuts.specs.Codes.{cut_code, word_cuts, cut_codes}
use Rattle.outlook_cuts.proofs.Laws.{word_few}

-- CODES

-- order is kept where all go up by one
insert_next : (v : ℕ) (l : List ℕ) → insert (suc v) (map suc l) ≡ map suc (insert v l)
unfolding insert
insert_next v [] = refl
insert_next v (x ∷ l) = go (placing v x) (insert_next v l)
  where
    go : Placing v x → insert (suc v) (map suc l) ≡ map suc (insert v l) → insert (suc v) (suc x ∷ map suc l) ≡ map suc (insert v (x ∷ l))
    go (lower h) ih = insert_lower (suc v) (suc x) (map suc l) (omega arith) ∙ ap (map suc) (sym (insert_lower v x l h))
    go (Placing.equal e) ih = insert_equal (suc v) (suc x) (map suc l) (omega arith) ∙ ap (map suc) (sym (insert_equal v x l e))
    go (higher h) ih = insert_higher (suc v) (suc x) (map suc l) (omega arith) ∙ ap (λ t. suc x ∷ t) ih ∙ ap (map suc) (sym (insert_higher v x l h))

ascending_next : (l : List ℕ) → ascending (map suc l) ≡ map suc (ascending l)
unfolding ascending
ascending_next [] = refl
ascending_next (x ∷ l) = ap (insert (suc x)) (ascending_next l) ∙ insert_next x (ascending l)

-- A COMPARISON CUTS WHERE ITS WORD SAYS

-- the cuts of a comparison, at its number and the next
abbrev near : Comparison → List ℕ
near c = keep (cuts_at c) (c.number ∷ suc c.number ∷ [])

module _ (c : Comparison) where
  abbrev at : ℕ → Bool
  at v = answers c.operator c.number v

  differs : (v : ℕ) → (0 < v → beq (at (v - 1)) (at v) ≡ false) → cuts_at c v ≡ (leb 2 (suc v) && leb (suc v) (suc highest))
  unfolding cuts_at
  differs v d = go (dec_lt 0 v) (dec_le v highest)
    where
      go : Dec (0 < v) → Dec (v ≤ highest) → cuts_at c v ≡ (leb 2 (suc v) && leb (suc v) (suc highest))
      go (yes h) (yes g) = rw (lt-ltb 0 v h, le-leb v highest g, d h, le-leb 2 (suc v) (omega arith), le-leb (suc v) (suc highest) (omega arith))
      go (yes h) (no g) = rw (lt-ltb 0 v h, lt-leb v highest (omega arith), le-leb 2 (suc v) (omega arith), lt-leb (suc v) (suc highest) (omega arith))
      go (no h) e = rw (le-ltb 0 v (omega arith), lt-leb 2 (suc v) (omega arith))

  agrees : (v : ℕ) → (0 < v → beq (at (v - 1)) (at v) ≡ true) → cuts_at c v ≡ false
  unfolding cuts_at
  agrees v d = go (dec_lt 0 v) (dec_le v highest)
    where
      go : Dec (0 < v) → Dec (v ≤ highest) → cuts_at c v ≡ false
      go (yes h) (yes g) = rw (lt-ltb 0 v h, le-leb v highest g, d h)
      go (yes h) (no g) = rw (lt-ltb 0 v h, lt-leb v highest (omega arith))
      go (no h) e = rw (le-ltb 0 v (omega arith))

-- of two numbers those that pass
keep_two : (p : ℕ → Bool) (x y : ℕ) → map suc (keep p (x ∷ y ∷ [])) ≡ cond (p x) (suc x ∷ []) [] ++ cond (p y) (suc y ∷ []) []
unfolding keep
keep_two p x y = go (p x) (p y)
  where
    go : (a b : Bool) → map suc (elim a [ true ↦ x ∷ elim b [ true ↦ y ∷ [] | false ↦ [] ] | false ↦ elim b [ true ↦ y ∷ [] | false ↦ [] ] ])
        ≡ cond a (suc x ∷ []) [] ++ cond b (suc y ∷ []) []
    go true true = refl
    go true false = refl
    go false true = refl
    go false false = refl

-- a comparison that cuts at one of the two, or at both
module _ (c : Comparison) where
  -- a cut at v, if it is in the range
  abbrev Cutting : ℕ → Type 0
  Cutting v = cuts_at c v ≡ (leb 2 (suc v) && leb (suc v) (suc highest))

  first_only : Cutting c.number → cuts_at c (suc c.number) ≡ false → map suc (near c) ≡ cut_code (suc c.number)
  unfolding cut_code
  first_only d a = keep_two (cuts_at c) c.number (suc c.number) ∙ rw (d, a) (append-nil (cut_code (suc c.number)))

  second_only : cuts_at c c.number ≡ false → Cutting (suc c.number) → map suc (near c) ≡ cut_code (suc (suc c.number))
  unfolding cut_code
  second_only a d = keep_two (cuts_at c) c.number (suc c.number) ∙ rw (a, d)

  at_both : Cutting c.number → Cutting (suc c.number) → map suc (near c) ≡ cut_code (suc c.number) ++ cut_code (suc (suc c.number))
  unfolding cut_code
  at_both d e = keep_two (cuts_at c) c.number (suc c.number) ∙ rw (d, e)

-- what words say, by their kind
status_cuts : (f : ℕ) (neg : Bool) (y : ℕ) → word_cuts f (word (2 + bit neg) y 0) ≡ []
unfolding word_cuts
status_cuts f neg y =
    let b = bit_small neg in
    rw (kind_of_lem (2 + bit neg) y 0 (omega arith), lt-leb 4 (2 + bit neg) (omega arith))

module _ (f : ℕ) (neg : Bool) (x : ℕ) (placed : x < field_limit) (n : ℕ) where
  low_cuts : word_cuts f (word (4 + bit neg) x n) ≡ cond (eqb x f) (cut_code n) []
  unfolding word_cuts
  low_cuts =
      let b = bit_small neg in
      rw (
        kind_of_lem (4 + bit neg) x n (omega arith),
        field_of (4 + bit neg) x n (omega arith) placed,
        number_of (4 + bit neg) x n (omega arith) placed,
        le-leb 4 (4 + bit neg) (omega arith),
        lt-ltb (4 + bit neg) 6 (omega arith),
      )

  same_cuts : word_cuts f (word (6 + bit neg) x n) ≡ cond (eqb x f) (cut_code n ++ cut_code (suc n)) []
  unfolding word_cuts
  same_cuts =
      let b = bit_small neg in
      rw (
        kind_of_lem (6 + bit neg) x n (omega arith),
        field_of (6 + bit neg) x n (omega arith) placed,
        number_of (6 + bit neg) x n (omega arith) placed,
        le-leb 4 (6 + bit neg) (omega arith),
        le-ltb (6 + bit neg) 6 (omega arith),
      )

near_below : (x k : ℕ) → map suc (near (record { field = x; operator = below; number = k })) ≡ cut_code (suc k)
unfolding answers
near_below x k =
    let c : Comparison = record { field = x; operator = below; number = k } in
    first_only c (differs c k (λ h. rw (lt-ltb (k - 1) k (omega arith), le-ltb k k (omega arith))))
    (agrees c (suc k) (λ h. rw (le-ltb (suc k - 1) k (omega arith), le-ltb (suc k) k (omega arith))))

near_least : (x k : ℕ) → map suc (near (record { field = x; operator = at_least; number = k })) ≡ cut_code (suc k)
unfolding answers
near_least x k =
    let c : Comparison = record { field = x; operator = at_least; number = k } in
    first_only c (differs c k (λ h. rw (lt-leb k (k - 1) (omega arith), le-leb k k (omega arith))))
    (agrees c (suc k) (λ h. rw (le-leb k (suc k - 1) (omega arith), le-leb k (suc k) (omega arith))))

near_most : (x k : ℕ) → map suc (near (record { field = x; operator = at_most; number = k })) ≡ cut_code (suc (suc k))
unfolding answers
near_most x k =
    let c : Comparison = record { field = x; operator = at_most; number = k } in
    second_only c (agrees c k (λ h. rw (le-leb (k - 1) k (omega arith), le-leb k k (omega arith))))
    (differs c (suc k) (λ h. rw (le-leb (suc k - 1) k (omega arith), lt-leb (suc k) k (omega arith))))

near_above : (x k : ℕ) → map suc (near (record { field = x; operator = above; number = k })) ≡ cut_code (suc (suc k))
unfolding answers
near_above x k =
    let c : Comparison = record { field = x; operator = above; number = k } in
    second_only c (agrees c k (λ h. rw (le-ltb k (k - 1) (omega arith), le-ltb k k (omega arith))))
    (differs c (suc k) (λ h. rw (le-ltb k (suc k - 1) (omega arith), lt-ltb k (suc k) (omega arith))))

near_equal : (x k : ℕ) → map suc (near (record { field = x; operator = equal; number = k })) ≡ cut_code (suc k) ++ cut_code (suc (suc k))
unfolding answers
near_equal x k =
    let c : Comparison = record { field = x; operator = equal; number = k } in
    at_both c (differs c k (λ h. rw (ne_eqb (k - 1) k (λ e. omega arith), eq-eqb k k refl)))
    (differs c (suc k) (λ h. rw (eq-eqb (suc k - 1) k (omega arith), ne_eqb (suc k) k (λ e. omega arith))))

-- the cuts of the field by a leaf
abbrev leaf_cuts : ℕ → Leaf → List ℕ
leaf_cuts f x = joined near (compares f x)

module _ (f : ℕ) where
  of_field : (c : Comparison) (codes : List ℕ) → map suc (near c) ≡ codes → cond (eqb c.field f) codes [] ≡ map suc (leaf_cuts f (Leaf.compare c))
  unfolding joined
  of_field c codes e = go (eqb c.field f)
    where
      go : (b : Bool) → cond b codes [] ≡ map suc (joined near (cond b (c ∷ []) []))
      go true = sym e ∙ ap (map suc) (sym (joined_one near c))
      go false = refl

  comparison_cuts : (neg : Bool) (x : ℕ) (o : Operator) (k : ℕ) → x < field_limit
      → word_cuts f (comparison_word neg x o k) ≡ map suc (leaf_cuts f (Leaf.compare (record { field = x; operator = o; number = k })))
  unfolding comparison_word
  comparison_cuts neg x below k h = low_cuts f neg x h (suc k)
      ∙ of_field (record { field = x; operator = below; number = k }) (cut_code (suc k)) (near_below x k)
  comparison_cuts neg x at_most k h = low_cuts f neg x h (suc (suc k))
      ∙ of_field (record { field = x; operator = at_most; number = k }) (cut_code (suc (suc k))) (near_most x k)
  comparison_cuts neg x equal k h =
      same_cuts f neg x h (suc k) ∙ of_field (record { field = x; operator = equal; number = k }) (cut_code (suc k) ++ cut_code (suc (suc k))) (near_equal x k)
  comparison_cuts neg x at_least k h = low_cuts f (not neg) x h (suc k)
      ∙ of_field (record { field = x; operator = at_least; number = k }) (cut_code (suc k)) (near_least x k)
  comparison_cuts neg x above k h = low_cuts f (not neg) x h (suc (suc k))
      ∙ of_field (record { field = x; operator = above; number = k }) (cut_code (suc (suc k))) (near_above x k)

  leaf_cuts_lem : (neg : Bool) (x : Leaf) → LeafIn status_limit field_limit x → word_cuts f (leaf_word neg x) ≡ map suc (leaf_cuts f x)
  unfolding leaf_word joined
  leaf_cuts_lem neg (Leaf.status y) h = status_cuts f neg y
  leaf_cuts_lem neg (Leaf.compare c) h = comparison_cuts neg c.field c.operator c.number h

  -- of a condition that fits
  pub condition_cuts : (c : Cond) → Fits c → joined (word_cuts f) (words c) ≡ map suc (joined (leaf_cuts f) (leaves_c c))
  unfolding word_cuts
  condition_cuts c h =
      words_leaves (word_cuts f) (λ x. map suc (leaf_cuts f x)) join_cuts c (λ neg x i. leaf_cuts_lem neg x (h.placed x i))
      ∙ sym (map_joined suc (leaf_cuts f) (leaves_c c))
    where
      join_cuts : (k : Bool) → word_cuts f (bit k) ≡ []
      join_cuts true = refl
      join_cuts false = refl

  -- of the rules of a sheet; `words_in` gives the words of a rule's condition, if it has one
  module _ (words_in : Option Cond → List ℕ) (no_words : words_in none ≡ []) (some_words : (c : Cond) → words_in (some c) ≡ words c) where
    rule_cuts : (o : Option Cond) → ((c : Cond) → o ≡ some c → Fits c) → joined (word_cuts f) (words_in o) ≡ map suc (joined (leaf_cuts f) (leaves_of o))
    unfolding leaves_of joined
    rule_cuts none h = rw no_words
    rule_cuts (some c) h = rw (some_words c) (condition_cuts c (h c refl))

    pub sheet_cuts : (sh : Sheet) → ((r : Rule) → In r sh.rules → (c : Cond) → r.condition ≡ some c → Fits c)
        → cut_codes f (joined (λ r. words_in r.condition) sh.rules) ≡ map suc (cuts (tests sh) f)
    unfolding cut_codes cuts comparisons leaves
    sheet_cuts sh fits =
        ap ascending (joined_twice (word_cuts f) (λ (r : Rule). words_in r.condition) sh.rules
        ∙ joined_same _ (λ r. map suc (joined (leaf_cuts f) (leaves_of r.condition))) sh.rules (λ r i. rule_cuts r.condition (fits r i))
        ∙ sym (map_joined suc (λ (r : Rule). joined (leaf_cuts f) (leaves_of r.condition)) sh.rules)
        ∙ ap (map suc) (sym (joined_twice near (compares f) (leaves sh.rules)
        ∙ joined_twice (leaf_cuts f) (λ (r : Rule). leaves_of r.condition) sh.rules)))
        ∙ ascending_next (joined near (joined (compares f) (leaves sh.rules)))
        ∙ ap (λ xs. map suc (ascending (joined near (joined (compares f) xs)))) (sym (leaves_same sh))

-- how many codes there can be: two of a word
pub cut_codes_few : (f : ℕ) (ws : List ℕ) → length (cut_codes f ws) ≤ 2 * length ws
unfolding cut_codes joined
cut_codes_few f ws = omega (arith, ascending_few (joined (word_cuts f) ws), joined_few ws)
  where
    joined_few : (ws : List ℕ) → length (joined (word_cuts f) ws) ≤ 2 * length ws
    joined_few [] = omega arith
    joined_few (w ∷ ws) = omega (arith, length-append (word_cuts f w) (joined (word_cuts f) ws), word_few f w, joined_few ws)
