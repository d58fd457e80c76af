-- Numbers, counts and single lines put into lent space, in the form in which the functions' answers need them.
use mathlib.Core.Path.{◌≡◌, refl, ap, sym}
use mathlib.Core.Bool.{Bool, true, false}
use mathlib.Core.List.{List, [], ◌∷◌, ◌++◌}
use Prim.Native.Nat.{ℕ, zero, suc, ◌+◌, ◌-◌, ◌/◌, ◌%◌, ◌<◌, ◌≤◌}
use native.Mathlib.Omega.{arith}
use native.Mathlib.Numerals.{add-one}
use borrow.Author.Tests.{lt-ltb, le-ltb}
use lib.ListN.{length, drop, get_or, length-append, drop_of_length-le}
use lib.Seq.{drop-cons}
use Rattle.meaning.specs.Text.{text}
use Rattle.meaning.specs.Number.{decimal, written_in}
use Rattle.meaning.specs.Write.{line, mark}
use Rattle.theory.specs.Papers.Counts.{decimal_one}
use Rattle.theory.specs.Writing.ReadBack.{line_length_lem}
use Rattle.name.specs.Names.{spell_room}
use Rattle.theory.specs.Writing.Lent.{Wrote, wrote_room, wrote_both, wrote_none, Left, left_start, left_end, left_room, left_more, left_long, first_room, second_room, both_written}

-- a text
module _ (at₀ : ℕ) (w o₀ : List ℕ) (at i : ℕ) (o : List ℕ) (l : Left at₀ w o₀ at (drop i w) o) where
  pub text_room : i < length w → at + 1 ≤ length o
  text_room h = left_room at₀ w o₀ at (drop i w) o l (get_or w i 0 ∷ []) (drop (suc i) w) (drop-cons w i 0 h)

  pub text_more : i < length w → (o1 : List ℕ) (b : ℕ) → Wrote at (get_or w i 0 ∷ []) o o1 b → (j : ℕ) → j ≡ i + 1 → Left at₀ w o₀ b (drop j w) o1
  text_more h o1 b v j z = rw (z, add-one) (left_more at₀ w o₀ at (drop i w) o l (get_or w i 0 ∷ []) (drop (suc i) w) (drop-cons w i 0 h) o1 b v)

  pub text_end : length w ≤ i → Wrote at₀ w o₀ o at
  text_end h = left_end at₀ w o₀ at (drop i w) o l (drop_of_length-le w h)

pub ruleset texting = (left_start, text_room, text_more, text_end, left_long)

-- NUMBERS

digits_one : (left n : ℕ) → (left ≡ 0 → ⊥) → n < 10 → written_in left n ≡ (48 + n) ∷ []
unfolding written_in
digits_one zero n z h = absurd (z refl)
digits_one (suc k) n z h = rw (lt-ltb n 10 h, written_in)

digits_more : (left n : ℕ) → (left ≡ 0 → ⊥) → 10 ≤ n → written_in left n ≡ written_in (left - 1) (n / 10) ++ ((48 + n % 10) ∷ [])
unfolding written_in
digits_more zero n z h = absurd (z refl)
digits_more (suc k) n z h = let y : suc k - 1 ≡ k = omega arith in rw (le-ltb n 10 h, written_in, y)

pub digits_below : (left : ℕ) → (left ≡ 0 → ⊥) → (k : ℕ) → k ≡ left - 1 → k < left
digits_below left z k e = omega arith

module _ (n left at : ℕ) (o : List ℕ) (fits : at + length (written_in left n) ≤ length o) where
  pub digits_none : left ≡ 0 → Wrote at (written_in left n) o o at
  unfolding written_in
  digits_none e = wrote_none at (written_in left n) o fits (rw e)

  module _ (some : left ≡ 0 → ⊥) where
    pub digit_room : n < 10 → at + 1 ≤ length o
    digit_room h = omega (arith, ap length (digits_one left n some h))

    pub digit_done : n < 10 → (b : ℕ) → b ≡ 48 + n → (o1 : List ℕ) (r : ℕ) → Wrote at (b ∷ []) o o1 r → Wrote at (written_in left n) o o1 r
    digit_done h b e o1 r v = rw (digits_one left n some h, ← e) v

    module _ (high : 10 ≤ n) (m k : ℕ) (m_is : m ≡ n / 10) (k-is : k ≡ left - 1) where
      front : written_in left n ≡ written_in k m ++ ((48 + n % 10) ∷ [])
      front = rw (m_is, k-is) (digits_more left n some high)

      pub digits_front : at + length (written_in k m) ≤ length o
      digits_front = first_room at (written_in left n) (written_in k m) ((48 + n % 10) ∷ []) o front fits

      module _ (o1 : List ℕ) (a : ℕ) (v : Wrote at (written_in k m) o o1 a) where
        pub digits_last : a + 1 ≤ length o1
        digits_last = second_room at (written_in left n) (written_in k m) ((48 + n % 10) ∷ []) o front fits o1 a v

        pub digits_done : (b : ℕ) → b ≡ 48 + n % 10 → (o2 : List ℕ) (r : ℕ) → Wrote a (b ∷ []) o1 o2 r → Wrote at (written_in left n) o o2 r
        digits_done b e o2 r u = both_written at (written_in left n) (written_in k m) ((48 + n % 10) ∷ []) o front fits o1 a v o2 r (rw e at u)

pub ruleset digiting = (digits_below, digits_none, digit_room, digit_done, digits_front, digits_last, digits_done)

-- a number and the byte behind it
module _ (n b at : ℕ) (o : List ℕ) (fits : at + length (decimal n ++ (b ∷ [])) ≤ length o) where
  pub number_room : at + length (decimal n) ≤ length o
  number_room = first_room at (decimal n ++ (b ∷ [])) (decimal n) (b ∷ []) o refl fits

  module _ (o1 : List ℕ) (a : ℕ) (v : Wrote at (decimal n) o o1 a) where
    pub number_byte : a + 1 ≤ length o1
    number_byte = second_room at (decimal n ++ (b ∷ [])) (decimal n) (b ∷ []) o refl fits o1 a v

    pub number_done : (o2 : List ℕ) (r : ℕ) → Wrote a (b ∷ []) o1 o2 r → Wrote at (decimal n ++ (b ∷ [])) o o2 r
    number_done o2 r u = both_written at (decimal n ++ (b ∷ [])) (decimal n) (b ∷ []) o refl fits o1 a v o2 r u

pub ruleset numbering = (number_room, number_byte, number_done)

-- COUNTS

decimal_two : (n : ℕ) → 10 ≤ n → n < 100 → decimal n ≡ ((48 + n / 10) ∷ []) ++ ((48 + n % 10) ∷ [])
unfolding decimal written_in
decimal_two n h g = rw (le-ltb n 10 h, written_in) (rw (lt-ltb (n / 10) 10 (omega arith), written_in))

pub count_one : (n : ℕ) → n < 10 → 1 ≡ length (decimal n)
count_one n h = sym (ap length (decimal_one n h))

pub count_two : (n : ℕ) → 10 ≤ n → n < 100 → 2 ≡ length (decimal n)
count_two n h g = sym (ap length (decimal_two n h g))

pub ruleset counting = (count_one, count_two)

-- LINES

-- the four pieces of a line; there is room for each, whatever byte stands for the sign
module _ (at : ℕ) (k v o : List ℕ) (fits : at + length (line k v) ≤ length o) where
  pub line_key : at + length k ≤ length o
  line_key = omega (arith, line_length_lem k v)

  module _ (o1 : List ℕ) (a : ℕ) (y : Wrote at k o o1 a) where
    whole_1 : (s : ℕ) → at + length (k ++ (s ∷ [])) ≤ length o
    whole_1 s = simp length-append (omega (arith, line_length_lem k v))

    pub line_sign : a + 1 ≤ length o1
    line_sign = wrote_room at k (text "=") o o1 a (whole_1 61) y

    module _ (o2 : List ℕ) (b s : ℕ) (z : Wrote a (s ∷ []) o1 o2 b) where
      whole_2 : at + length (k ++ (s ∷ []) ++ v) ≤ length o
      whole_2 = simp length-append (omega (arith, line_length_lem k v))

      keyed_2 : Wrote at (k ++ (s ∷ [])) o o2 b
      keyed_2 = wrote_both at k (s ∷ []) o o1 a (whole_1 s) y o2 b z

      pub line_value : b + length v ≤ length o2
      line_value = wrote_room at (k ++ (s ∷ [])) v o o2 b whole_2 keyed_2

      module _ (o3 : List ℕ) (c : ℕ) (x : Wrote b v o2 o3 c) where
        whole_3 : at + length (k ++ (s ∷ []) ++ v ++ text "\n") ≤ length o
        whole_3 = simp length-append (omega (arith, line_length_lem k v))

        keyed_3 : Wrote at (k ++ (s ∷ []) ++ v) o o3 c
        keyed_3 = wrote_both at (k ++ (s ∷ [])) v o o2 b whole_2 keyed_2 o3 c x

        pub line_feed : c + 1 ≤ length o3
        line_feed = wrote_room at (k ++ (s ∷ []) ++ v) (text "\n") o o3 c whole_3 keyed_3

        pub line_done : s ≡ 61 → (o4 : List ℕ) (d : ℕ) → Wrote c (10 ∷ []) o3 o4 d → Wrote at (line k v) o o4 d
        unfolding line
        line_done e o4 d u = rw e at (wrote_both at (k ++ (s ∷ []) ++ v) (text "\n") o o3 c whole_3 keyed_3 o4 d u)

pub ruleset lining = (line_key, line_sign, line_value, line_feed, line_done)

-- the line of a status: a name of n bytes, and the word of its mark
module _ (w v : List ℕ) (b : Bool) (word : v ≡ mark b) where
  word_short : length v ≤ 3
  word_short = rw word (go b)
    where
      go : (b : Bool) → length (mark b) ≤ 3
      go true = omega arith
      go false = omega arith

  module _ (n : ℕ) (long : n ≡ length w) (r : ℕ) (sum : r ≡ n + length v + 2) where
    pub mark_long : r ≡ length (line w (mark b))
    mark_long = omega (arith, ap length word, line_length_lem w (mark b))

    pub mark_bound : n ≤ spell_room → r ≤ spell_room + 5
    mark_bound few = omega (arith, word_short)

pub ruleset marking = (mark_long, mark_bound)
