-- What the function adds, in return form: the premises are what is known at a place, the conclusion is what is asked there.
use Prim.Native.Nat.{ℕ, zero, suc, ◌+◌, ◌-◌, ◌*◌, ◌/◌, ◌%◌, ◌^◌, ◌≤◌, ◌<◌}
use mathlib.Core.Path.{◌≡◌, refl, sym, ◌∙◌, ap, ap₂}
use mathlib.Core.List.{List, [], ◌∷◌, ◌++◌, map, append_assoc, append-nil}
use native.Mathlib.Nat.{zero-mul, mul-zero, mod-lt, mul-div_cancel_left, div-lt_iff_lt-mul}
use native.Mathlib.Omega.{arith}
use mir.Val.{Fits}
use mir.Syntax.{w64}
use lib.ListN.{length, get_or, set, take, drop, length-set, length-drop, drop_of_length-le}
use lib.Seq.{drop-cons, drop-drop, get_or-take, get_or-drop, take-suc-set, length-take-le, take_all}
use Rattle.meaning.specs.Limits.{field_limit}
use Rattle.outlook_combos.specs.Numbered.{split, sum, product, choice}

-- lists taken apart have their lengths
split_lengths : (ns l : List ℕ) → sum ns ≤ length l → map length (split ns l) ≡ ns
unfolding split sum
split_lengths [] l h = refl
split_lengths (n ∷ ns) l h = ap₂ (λ a b. a ∷ b) (length-take-le n l (omega arith)) (split_lengths ns (drop n l) (rw length-drop (omega arith)))

-- one digit
choice_more : (ns flat : List ℕ) (base rest p : ℕ) → base + (p + sum ns) ≤ length flat → rest / product ns < p
    → choice (split (p ∷ ns) (drop base flat)) rest ≡ get_or flat (base + rest / product ns) 0 ∷ choice (split ns (drop (base + p) flat)) (rest % product ns)
unfolding choice split
choice_more ns flat base rest p h g =
    let l : length (drop base flat) ≡ length flat - base = length-drop base flat in
    let k : length (drop p (drop base flat)) ≡ length (drop base flat) - p = length-drop p (drop base flat) in
    rw (
      split_lengths ns (drop p (drop base flat)) (omega arith),
      get_or-take p (drop base flat) (rest / product ns) 0 g,
      get_or-drop base flat (rest / product ns) 0,
      drop-drop p base flat,
    )

-- a product above a number has no factor 0
factor_first : (x a b : ℕ) → x < a * b → 0 < a
factor_first x zero b h = absurd (omega (arith, zero-mul b))
factor_first x (suc a) b h = omega arith

factor_second : (x a b : ℕ) → x < a * b → 0 < b
factor_second x a zero h = absurd (omega (arith, mul-zero a))
factor_second x a (suc b) h = omega arith

-- what is still to be chosen gives the whole
pub record Choosing (x : ℕ) (lens flat v : List ℕ) (rest c base f : ℕ) : Type 0 where
  pub within : f ≤ field_limit
  pub lens_long : length lens ≡ field_limit
  pub long : length v ≡ field_limit
  pub room : base + sum (drop f lens) ≤ length flat
  pub left : c ≡ product (drop f lens)
  pub low : rest < c
  pub whole : choice (split lens flat) x ≡ take f v ++ choice (split (drop f lens) (drop base flat)) rest

module _ (x : ℕ) (lens flat : List ℕ) where
  pub choosing_start : (count : ℕ) (v : List ℕ) → x < count → count ≡ product lens → length lens ≡ field_limit → sum lens ≤ length flat → length v ≡ field_limit
      → Choosing x lens flat v x count 0 0
  choosing_start count v l e h g k = record { within = omega arith; lens_long = h; long = k; room = omega arith; left = e; low = l; whole = refl }

  module _ (v : List ℕ) (rest c base f : ℕ) (s : Choosing x lens flat v rest c base f) (more : f < field_limit) where
    -- the length of the next list, and those behind it
    abbrev p : ℕ
    p = get_or lens f 0

    abbrev ns : List ℕ
    ns = drop (suc f) lens

    first : drop f lens ≡ p ∷ ns
    first = drop-cons lens f 0 (omega (arith, s.lens_long))

    product_is : c ≡ p * product ns
    unfolding product
    product_is = s.left ∙ ap product first

    room_is : base + (p + sum ns) ≤ length flat
    unfolding sum
    room_is = omega (arith, s.room, ap sum first)

    low_is : rest < p * product ns
    low_is = omega (arith, s.low, product_is)

    pub list_pos : 0 < p
    list_pos = factor_first rest p (product ns) low_is

    next_is : c / p ≡ product ns
    next_is = ap (λ n. n / p) product_is ∙ mul-div_cancel_left (product ns) list_pos

    pub next_pos : 0 < c / p
    next_pos = omega (arith, next_is, factor_second rest p (product ns) low_is)

    digit_low : rest / product ns < p
    digit_low = (div-lt_iff_lt-mul (factor_second rest p (product ns) low_is)).1 low_is

    pub digit_in : base + rest / (c / p) < length flat
    digit_in = rw next_is (omega (arith, digit_low, room_is))

    list_in : base + p ≤ length flat
    list_in = omega (arith, room_is)

    pub digit_fits : length flat < 2 ^ 64 → (n : ℕ) → n ≡ base + rest / (c / p) → Fits w64 n
    digit_fits l n e = omega (arith, digit_in)

    pub list_fits : length flat < 2 ^ 64 → (n : ℕ) → n ≡ base + p → Fits w64 n
    list_fits l n e = omega (arith, list_in)

    pub choosing_more : (w : ℕ) → w ≡ get_or flat (base + rest / (c / p)) 0 → (b j : ℕ) → b ≡ base + p → j ≡ f + 1
        → Choosing x lens flat (set v f w) (rest % (c / p)) (c / p) b j
    choosing_more w e b j eb ej =
        let z : j ≡ suc f = omega arith in
        let y : w ≡ get_or flat (base + rest / product ns) 0 = e ∙ ap (λ n. get_or flat (base + rest / n) 0) next_is in
        record {
          within = omega arith;
          lens_long = s.lens_long;
          long = length-set v f w ∙ s.long;
          room = rw (z, eb) (omega (arith, room_is));
          left = rw z next_is;
          low = mod-lt rest next_pos;
          whole = s.whole
              ∙ ap (λ l. take f v ++ choice (split l (drop base flat)) rest) first
              ∙ ap (λ l. take f v ++ l) (choice_more ns flat base rest p room_is digit_low)
              ∙ rw (z, eb, next_is, take-suc-set v f w (omega (arith, s.long)), y)
              (sym (append_assoc (take f v) (get_or flat (base + rest / product ns) 0 ∷ []) (choice (split ns (drop (base + p) flat)) (rest % product ns))));
        }

  pub choosing_done : (v : List ℕ) (rest c base f : ℕ) → Choosing x lens flat v rest c base f → field_limit ≤ f → v ≡ choice (split lens flat) x
  unfolding choice split
  choosing_done v rest c base f s h =
      sym (s.whole ∙ rw (take_all f v (omega (arith, s.long)), drop_of_length-le lens {i = f} (omega (arith, s.lens_long))) (append-nil v))

pub ruleset choosing = (choosing_start, list_pos, next_pos, digit_in, digit_fits, list_fits, choosing_more, choosing_done)
