-- Words taken apart, and what each does to the stack: a leaf's word puts the leaf's value there, a join's word puts two values together.
use Prim.Native.Nat.{ℕ, zero, suc, ◌+◌, ◌*◌, ◌/◌, ◌%◌, ◌≤◌, ◌<◌, min, max}
use mathlib.Core.Path.{◌≡◌, refl, sym, ap, ◌∙◌}
use mathlib.Core.Bool.{Bool, true, false, cond, not}
use mathlib.Core.List.{List}
use native.Mathlib.Omega.{arith}
use native.Mathlib.Nat.{zero-min, zero-max}
use lib.ListN.{get_or}
use lib.Dec.{ltb, leb, eqb, lit<, lit≤, leb-suc-suc, eqb-suc-suc, eqb-suc-zero}
use borrow.Author.Tests.{ltb-true, ltb-false, lt-leb, le-leb, le-ltb}
use Rattle.meaning.specs.Limits.{field_limit, status_limit}
use Rattle.meaning.specs.Kleene.{Kleene, true₃, false₃, unknown, known₃, not₃, and₃, or₃}
use Rattle.meaning.specs.Condition.{Operator, below, at_most, equal, at_least, above, answers, compared, Leaf, value_l}
use Rattle.theory.specs.Papers.Conditions.{LeafIn}
use Rattle.cond_value.specs.Flat.{word, bit, comparison_word, leaf_word}
use Rattle.marks.specs.Codes.{code, value_of, status_in, field_in}
use Rattle.cond_value.specs.Machine.{raw_of, turned, joined_of, step_of}

-- KLEENE'S TABLES

-- De Morgan's laws
pub not_not : (a : Kleene) → not₃ (not₃ a) ≡ a
not_not false₃ = refl
not_not unknown = refl
not_not true₃ = refl

not_and : (a b : Kleene) → not₃ (and₃ a b) ≡ or₃ (not₃ a) (not₃ b)
not_and false₃ b = refl
not_and unknown false₃ = refl
not_and unknown unknown = refl
not_and unknown true₃ = refl
not_and true₃ b = refl

not_or : (a b : Kleene) → not₃ (or₃ a b) ≡ and₃ (not₃ a) (not₃ b)
not_or false₃ b = refl
not_or unknown false₃ = refl
not_or unknown unknown = refl
not_or unknown true₃ = refl
not_or true₃ b = refl

-- the value, or its negation
abbrev pub polar : Bool → Kleene → Kleene
polar false k = k
polar true k = not₃ k

pub polar_not : (b : Bool) (k : Kleene) → polar (not b) k ≡ polar b (not₃ k)
polar_not false k = refl
polar_not true k = sym (not_not k)

-- the values in two bits
pub num_small : (k : Kleene) → code k ≤ 2
num_small false₃ = lit≤ tt
num_small unknown = lit≤ tt
num_small true₃ = lit≤ tt

and_min : (k m : Kleene) → min (code k) (code m) ≡ code (and₃ k m)
and_min false₃ m = zero-min (code m)
and_min unknown false₃ = refl
and_min unknown unknown = refl
and_min unknown true₃ = refl
and_min true₃ false₃ = refl
and_min true₃ unknown = refl
and_min true₃ true₃ = refl

or_max : (k m : Kleene) → max (code k) (code m) ≡ code (or₃ k m)
or_max false₃ m = zero-max (code m)
or_max unknown false₃ = refl
or_max unknown unknown = refl
or_max unknown true₃ = refl
or_max true₃ false₃ = refl
or_max true₃ unknown = refl
or_max true₃ true₃ = refl

-- a word's last bit negates
turned_polar : (w : ℕ) (b : Bool) (k : Kleene) → w % 2 ≡ bit b → turned w (code k) ≡ code (polar b k)
unfolding turned
turned_polar w false k e = rw e
turned_polar w true false₃ e = rw e
turned_polar w true unknown e = rw e
turned_polar w true true₃ e = rw e

pub bit_small : (b : Bool) → bit b ≤ 1
bit_small false = lit≤ tt
bit_small true = lit≤ tt

-- WORDS TAKEN APART

module _ (kind i n : ℕ) (hk : kind < 8) where
  pub kind_of_lem : word kind i n % 8 ≡ kind
  unfolding word
  kind_of_lem = omega arith

  sign_of : word kind i n % 2 ≡ kind % 2
  unfolding word
  sign_of = omega arith

  status_of_lem : i < 32 → word kind i n / 8 % 32 ≡ i
  unfolding word
  status_of_lem h = omega arith

  pub field_of : i < 16 → word kind i n / 8 % 16 ≡ i
  unfolding word
  field_of h = omega arith

  pub number_of : i < 16 → word kind i n / 256 ≡ n
  unfolding word
  number_of h = omega arith

-- COMPARISONS

-- the two comparisons that words have, of a value's code x and a number's code n
abbrev under : ℕ → ℕ → Kleene
under n zero = unknown
under n (suc v) = known₃ (ltb (suc v) n)

abbrev like : ℕ → ℕ → Kleene
like n zero = unknown
like n (suc v) = known₃ (eqb (suc v) n)

tested_under : (n x : ℕ) → cond (eqb x 0) 1 (code (known₃ (ltb x n))) ≡ code (under n x)
tested_under n zero = refl
tested_under n (suc v) = rw eqb-suc-zero

tested_like : (n x : ℕ) → cond (eqb x 0) 1 (code (known₃ (eqb x n))) ≡ code (like n x)
tested_like n zero = refl
tested_like n (suc v) = rw eqb-suc-zero

not_known : (b : Bool) → not₃ (known₃ b) ≡ known₃ (not b)
not_known false = refl
not_known true = refl

less_or_not : (v n : ℕ) → not (ltb v n) ≡ leb n v
less_or_not v n = go (ltb v n) refl
  where
    go : (b : Bool) → ltb v n ≡ b → not b ≡ leb n v
    go true e = sym (lt-leb n v (ltb-true v n e))
    go false e = sym (le-leb n v (ltb-false v n e))

-- the five operators by two and a sign: `<=` and `>` are `<` and `>=` of one more, `>=` is not `<`
module _ (f k : ℕ) where
  is_below : (x : ℕ) → under (suc k) x ≡ compared (record { field = f; operator = below; number = k }) (value_of x)
  unfolding compared answers
  is_below zero = refl
  is_below (suc v) = ap known₃ (leb-suc-suc (suc v) k)

  is_most : (x : ℕ) → under (suc (suc k)) x ≡ compared (record { field = f; operator = at_most; number = k }) (value_of x)
  unfolding compared answers
  is_most zero = refl
  is_most (suc v) = ap known₃ (leb-suc-suc (suc v) (suc k) ∙ leb-suc-suc v k)

  is_equal : (x : ℕ) → like (suc k) x ≡ compared (record { field = f; operator = equal; number = k }) (value_of x)
  unfolding compared answers
  is_equal zero = refl
  is_equal (suc v) = ap known₃ (eqb-suc-suc v k)

  is_least : (x : ℕ) → not₃ (under (suc k) x) ≡ compared (record { field = f; operator = at_least; number = k }) (value_of x)
  unfolding compared answers
  is_least zero = refl
  is_least (suc v) = not_known (ltb (suc v) (suc k)) ∙ ap known₃ (less_or_not (suc v) (suc k) ∙ leb-suc-suc k v)

  is_above : (x : ℕ) → not₃ (under (suc (suc k)) x) ≡ compared (record { field = f; operator = above; number = k }) (value_of x)
  unfolding compared answers
  is_above zero = refl
  is_above (suc v) = not_known (ltb (suc v) (suc (suc k))) ∙ ap known₃ (less_or_not (suc v) (suc (suc k)) ∙ leb-suc-suc (suc k) v)

-- two values and what lies below them, taken off the stack
parts : (st : ℕ) (k m : Kleene) → let x = (st * 4 + code k) * 4 + code m in (x / 16 ≡ st) × (x / 4 % 4 ≡ code k) × (x % 4 ≡ code m)
parts st k m = let hk : code k ≤ 2 = num_small k in let hm : code m ≤ 2 = num_small m in (omega arith, omega arith, omega arith)

module _ (values marks : List ℕ) where
  -- LEAVES

  -- a leaf's word puts a value on the stack
  push : (w st : ℕ) (b : Bool) (k : Kleene) → ltb (w % 8) 2 ≡ false → w % 2 ≡ bit b → raw_of values marks w ≡ code k → st < 4611686018427387904
      → step_of values marks w st ≡ st * 4 + code (polar b k)
  unfolding step_of
  push w st b k e1 e2 e3 h = rw (e1, e3, turned_polar w b k e2) (omega arith)

  -- a word of an even kind that is no join, or its odd fellow
  module _ (kind : ℕ) (b : Bool) (i n st : ℕ) (k : Kleene) where
    leaf_push : 2 ≤ kind → kind < 7 → kind % 2 ≡ 0 → raw_of values marks (word (kind + bit b) i n) ≡ code k → st < 4611686018427387904
        → step_of values marks (word (kind + bit b) i n) st ≡ st * 4 + code (polar b k)
    leaf_push h2 h7 he e h =
        let small : bit b ≤ 1 = bit_small b in
        push (word (kind + bit b) i n) st b k (rw (kind_of_lem (kind + bit b) i n (omega arith)) (le-ltb (kind + bit b) 2 (omega arith)))
        (sign_of (kind + bit b) i n (omega arith) ∙ omega arith) e h

  module _ (i n : ℕ) where
    raw_status : (b : Bool) → i < status_limit → raw_of values marks (word (2 + bit b) i n) ≡ code (status_in marks i)
    unfolding raw_of
    raw_status false h = rw (kind_of_lem 2 i n (lit< tt), status_of_lem 2 i n (lit< tt) h)
    raw_status true h = rw (kind_of_lem 3 i n (lit< tt), status_of_lem 3 i n (lit< tt) h)

    raw_under : (b : Bool) → i < field_limit → raw_of values marks (word (4 + bit b) i n) ≡ code (under n (get_or values i 0))
    unfolding raw_of
    raw_under false h = rw (kind_of_lem 4 i n (lit< tt), field_of 4 i n (lit< tt) h, number_of 4 i n (lit< tt) h) (tested_under n (get_or values i 0))
    raw_under true h = rw (kind_of_lem 5 i n (lit< tt), field_of 5 i n (lit< tt) h, number_of 5 i n (lit< tt) h) (tested_under n (get_or values i 0))

    raw_like : (b : Bool) → i < field_limit → raw_of values marks (word (6 + bit b) i n) ≡ code (like n (get_or values i 0))
    unfolding raw_of
    raw_like false h = rw (kind_of_lem 6 i n (lit< tt), field_of 6 i n (lit< tt) h, number_of 6 i n (lit< tt) h) (tested_like n (get_or values i 0))
    raw_like true h = rw (kind_of_lem 7 i n (lit< tt), field_of 7 i n (lit< tt) h, number_of 7 i n (lit< tt) h) (tested_like n (get_or values i 0))

  module _ (b : Bool) (f st : ℕ) (hf : f < field_limit) (h : st < 4611686018427387904) where
    -- a field below a number, or not
    below_step : (n : ℕ) (k : Kleene) → under n (get_or values f 0) ≡ k → step_of values marks (word (4 + bit b) f n) st ≡ st * 4 + code (polar b k)
    below_step n k e = leaf_push 4 b f n st k (lit≤ tt) (lit< tt) refl (raw_under f n b hf ∙ ap code e) h

    like_step : (n : ℕ) (k : Kleene) → like n (get_or values f 0) ≡ k → step_of values marks (word (6 + bit b) f n) st ≡ st * 4 + code (polar b k)
    like_step n k e = leaf_push 6 b f n st k (lit≤ tt) (lit< tt) refl (raw_like f n b hf ∙ ap code e) h

  not_below_step : (b : Bool) (f st : ℕ) → f < field_limit → st < 4611686018427387904 → (n : ℕ) (k : Kleene) → not₃ (under n (get_or values f 0)) ≡ k
      → step_of values marks (word (4 + bit (not b)) f n) st ≡ st * 4 + code (polar b k)
  not_below_step b f st hf h n k e =
      below_step (not b) f st hf h n (under n (get_or values f 0)) refl
      ∙ ap (λ (k : Kleene). st * 4 + code k) (polar_not b (under n (get_or values f 0)) ∙ ap (polar b) e)

  comparison_step : (b : Bool) (f : ℕ) (o : Operator) (k st : ℕ) → f < field_limit → st < 4611686018427387904
      → step_of values marks (comparison_word b f o k) st ≡ st * 4 + code
      (polar b (compared (record { field = f; operator = o; number = k }) (field_in values f)))
  unfolding comparison_word
  comparison_step b f below k st hf h = below_step b f st hf h (suc k) _ (is_below f k (get_or values f 0))
  comparison_step b f at_most k st hf h = below_step b f st hf h (suc (suc k)) _ (is_most f k (get_or values f 0))
  comparison_step b f equal k st hf h = like_step b f st hf h (suc k) _ (is_equal f k (get_or values f 0))
  comparison_step b f at_least k st hf h = not_below_step b f st hf h (suc k) _ (is_least f k (get_or values f 0))
  comparison_step b f above k st hf h = not_below_step b f st hf h (suc (suc k)) _ (is_above f k (get_or values f 0))

  -- every leaf
  pub leaf_step : (b : Bool) (x : Leaf) (st : ℕ) → LeafIn status_limit field_limit x → st < 4611686018427387904
      → step_of values marks (leaf_word b x) st ≡ st * 4 + code (polar b (value_l (status_in marks) (field_in values) x))
  unfolding leaf_word value_l
  leaf_step b (Leaf.status x) st hx h = leaf_push 2 b x 0 st _ (lit≤ tt) (lit< tt) refl (raw_status x 0 b hx) h
  leaf_step b (Leaf.compare c) st hx h = comparison_step b c.field c.operator c.number st hx h

  -- JOINS

  and_step : (st : ℕ) (k m : Kleene) → step_of values marks 0 ((st * 4 + code k) * 4 + code m) ≡ st * 4 + code (and₃ k m)
  unfolding step_of joined_of
  and_step st k m = rw ((parts st k m).0, (parts st k m).1, (parts st k m).2, and_min k m)

  or_step : (st : ℕ) (k m : Kleene) → step_of values marks 1 ((st * 4 + code k) * 4 + code m) ≡ st * 4 + code (or₃ k m)
  unfolding step_of joined_of
  or_step st k m = rw ((parts st k m).0, (parts st k m).1, (parts st k m).2, or_max k m)

  -- under a `not` an and is an or, and an or an and
  pub all_step : (b : Bool) (st : ℕ) (k m : Kleene)
      → step_of values marks (bit b) ((st * 4 + code (polar b k)) * 4 + code (polar b m)) ≡ st * 4 + code (polar b (and₃ k m))
  all_step false st k m = and_step st k m
  all_step true st k m = rw (not_and k m) (or_step st (not₃ k) (not₃ m))

  pub any_step : (b : Bool) (st : ℕ) (k m : Kleene)
      → step_of values marks (bit (not b)) ((st * 4 + code (polar b k)) * 4 + code (polar b m)) ≡ st * 4 + code (polar b (or₃ k m))
  any_step false st k m = or_step st k m
  any_step true st k m = rw (not_or k m) (and_step st (not₃ k) (not₃ m))
