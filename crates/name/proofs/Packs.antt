-- Names packed: the number of a name stands for that name alone, and fits 64 bits.
use mathlib.Core.Path.{◌≡◌, refl, sym, ◌∙◌}
use mathlib.Core.Bool.{Bool, true, false, ◌||◌, and-false, false≢true}
use mathlib.Core.List.{List, [], ◌∷◌, map}
use mathlib.Core.Option.{some}
use Prim.Native.Nat.{ℕ, zero, suc, ◌+◌, ◌-◌, ◌*◌, ◌/◌, ◌%◌, ◌^◌, ◌<◌, ◌≤◌}
use native.Mathlib.Omega.{arith}
use native.Mathlib.Nat.{pow-suc, one-le-pow}
use native.Mathlib.Decide.{dec_lt}
use mir.Val.{Fits}
use mir.Syntax.{w64}
use borrow.Author.Tests.{eq-eqb, ne_eqb, le-leb, lt-leb, leb-true, eqb-true, eqb-false}
use lib.Dec.{eqb, leb}
use lib.ListN.{length, drop, take, get_or, drop_of_length-le, length-drop}
use lib.Seq.{drop-cons, get_or-take}
use Rattle.meaning.specs.Text.{run, same, among, find, later, any, is_in, from}
use Rattle.meaning.specs.Limits.{name_bytes}
use Rattle.meaning.specs.Name.{Name, name_byte, reserved}
use Rattle.theory.specs.Lists.Members.{every, eqb_alike}
use Rattle.theory.specs.Papers.Names.{Good, good_plain, good_short, run_first, run_taken, same_equal}
use Rattle.theory.specs.Reading.Told.{run_fits}
use Rattle.std.specs.Prelude.{Some, None}
use Rattle.std.specs.Prelude.{Option as Maybe}
use Rattle.text.proofs.Laws.{length_run}
use Rattle.name.specs.declared.Name.{Name as Kept}
use Rattle.name.specs.Packed.{base, symbol, byte_of, packed, named_in, named}
use Rattle.name.specs.Names.{kept, name_of}
use Rattle.name.specs.Answers.{found_by, same_kept, found_in, place_of, further}

-- SYMBOLS

byte_below : (x : ℕ) → name_byte x ≡ true → x < 123
byte_below x e = go (dec_lt x 123)
  where
    go : Dec (x < 123) → x < 123
    go (yes h) = h
    go (no h) = absurd (false≢true (rw (lt-leb x 122 (omega arith), lt-leb x 57 (omega arith), and-false (leb 97 x), and-false (leb 48 x)) at e))

-- every byte is a name byte
abbrev pub Plain : List ℕ → Type 0
Plain w = run name_byte w ≡ length w

-- a name byte: its symbol, and back
module _ (x : ℕ) (e : name_byte x ≡ true) where
  symbol_some : 1 ≤ symbol x
  unfolding any from symbol
  symbol_some = leb-true 1 (symbol x) (every 123 name_byte (λ x. leb 1 (symbol x)) refl x (byte_below x e) e)

  symbol_small : suc (symbol x) ≤ base
  unfolding any from symbol
  symbol_small = leb-true (suc (symbol x)) base (every 123 name_byte (λ x. leb (suc (symbol x)) base) refl x (byte_below x e) e)

  symbol_back : byte_of (symbol x) ≡ x
  unfolding any from symbol byte_of
  symbol_back = eqb-true (byte_of (symbol x)) x (every 123 name_byte (λ x. eqb (byte_of (symbol x)) x) refl x (byte_below x e) e)

symbol_byte : (d : ℕ) → d < base → name_byte (byte_of d) ≡ true → symbol (byte_of d) ≡ d
unfolding any from symbol byte_of
symbol_byte d h e = eqb-true (symbol (byte_of d)) d (every base (λ d. name_byte (byte_of d)) (λ d. eqb (symbol (byte_of d)) d) refl d h e)

-- what the code's two ways of a symbol give
pub symbol_high : (x r : ℕ) → name_byte x ≡ true → 97 ≤ x → r ≡ x - 96 → (r ≡ symbol x) × (r < base)
unfolding symbol
symbol_high x r e h z = let q : symbol x ≡ x - 96 = rw (le-leb 97 x h) in (omega arith, omega (arith, symbol_small x e))

pub symbol_low : (x r : ℕ) → name_byte x ≡ true → x < 97 → r ≡ x - 21 → (r ≡ symbol x) × (r < base)
unfolding symbol
symbol_low x r e h z = let q : symbol x ≡ x - 21 = rw (lt-leb 97 x h) in (omega arith, omega (arith, symbol_small x e))

-- NAMES AND NUMBERS

packed_bound : (k : ℕ) (w : List ℕ) → length w ≤ k → Plain w → packed w < base ^ k
unfolding packed
packed_bound k [] h p = one-le-pow k base (omega arith)
packed_bound zero (x ∷ w) h p = absurd (omega arith)
packed_bound (suc k) (x ∷ w) h p = let (b, q) = run_first name_byte x w p in omega (arith, pow-suc base k, packed_bound k w (omega arith) q, symbol_small x b)

-- a name is that of a number where the number is its own, and nowhere else
same_in : (w : List ℕ) (k v : ℕ) → length w < k → Plain w → same w (named_in k v) ≡ eqb v (packed w)
unfolding same packed named_in
same_in w zero v h p = absurd (omega arith)
same_in [] (suc k) v h p =
    elim (eqb v 0) as (λ b. same [] (elim b [ true ↦ [] | false ↦ byte_of (v % base) ∷ named_in k (v / base) ]) ≡ b) [ true ↦ refl | false ↦ refl ]
same_in (x ∷ w) (suc k) v h p = go (eqb v 0) refl (same_in w k (v / base) (omega arith) (run_first name_byte x w p).1)
  where
    b : name_byte x ≡ true
    b = (run_first name_byte x w p).0

    first : eqb x (byte_of (v % base)) ≡ eqb (v % base) (symbol x)
    first =
        eqb_alike x (byte_of (v % base)) (v % base) (symbol x) (λ e. sym (rw e (symbol_byte (v % base) (omega arith) (rw (← e) b))))
        (λ e. rw e (sym (symbol_back x b)))

    others : (t : Bool) → eqb (v % base) (symbol x) ≡ t → (r : Bool) → r ≡ eqb (v / base) (packed w)
        → elim t [ true ↦ r | false ↦ false ] ≡ eqb v (symbol x + base * packed w)
    others true e r ih =
        let q = eqb-true (v % base) (symbol x) e in
        ih ∙ eqb_alike (v / base) (packed w) v (symbol x + base * packed w) (λ z. omega arith) (λ z. omega (arith, symbol_small x b))
    others false e r ih = sym (ne_eqb v (symbol x + base * packed w) (λ z. eqb-false (v % base) (symbol x) e (omega (arith, symbol_small x b))))

    go : (t : Bool) → eqb v 0 ≡ t → same w (named_in k (v / base)) ≡ eqb (v / base) (packed w)
        → same (x ∷ w) (elim t [ true ↦ [] | false ↦ byte_of (v % base) ∷ named_in k (v / base) ]) ≡ eqb v (symbol x + base * packed w)
    go true e ih = sym (ne_eqb v (symbol x + base * packed w) (λ z. omega (arith, eqb-true v 0 e, symbol_some x b)))
    go false e ih = rw (first, same) (others (eqb (v % base) (symbol x)) refl (same w (named_in k (v / base))) ih)

-- a text for which its number stands: no longer than a name, all of it name bytes. A good name is one, and so is a reserved word
pub record Packable (w : List ℕ) : Type 0 where
  pub plain : Plain w
  pub short : length w ≤ name_bytes

pub good_packable : (w : Name) → Good w → Packable w
good_packable w h = record { plain = good_plain w h; short = good_short w h }

-- something was found
abbrev pub is_found : Maybe ℕ → Bool
is_found (Some i) = true
is_found None = false

module _ (w : List ℕ) (p : Packable w) where
  same_named : (v : ℕ) → same w (named v) ≡ eqb v (packed w)
  unfolding named
  same_named v = same_in w (suc name_bytes) v (omega (arith, p.short)) p.plain

  among_named : (vs : List ℕ) → among w (map named vs) ≡ is_in (packed w) vs
  unfolding among any
  among_named [] = refl
  among_named (v ∷ vs) = rw (same_named v, eqb_alike v (packed w) (packed w) v sym sym, among_named vs)

  -- a name is that of a kept one where this is the name kept, and nowhere else
  pub same_kept_lem : (k : Kept) → same w (name_of k) ≡ same_kept (kept w) k
  unfolding name_of kept same_kept
  same_kept_lem k = same_named k.word

  pub kept_again : name_of (kept w) ≡ w
  unfolding name_of kept
  kept_again = sym (same_equal w (named (packed w)) (same_named (packed w) ∙ eq-eqb (packed w) (packed w) refl))

  -- and a place among names is the place of the kept name among the kept ones
  tabled : (ks : List Kept) → (find w (map name_of ks) ≡ place_of (found_in (kept w) ks)) × (among w (map name_of ks) ≡ is_found (found_in (kept w) ks))
  unfolding find among found_by
  tabled [] = (refl, refl)
  tabled (k ∷ ks) = rw (same_kept_lem k, find) (go (same_kept (kept w) k) (found_in (kept w) ks) (tabled ks))
    where
      go : (b : Bool) (f : Maybe ℕ) → (find w (map name_of ks) ≡ place_of f) × (among w (map name_of ks) ≡ is_found f)
          → (elim b [ true ↦ some 0 | false ↦ later (find w (map name_of ks)) ] ≡ place_of (elim b [ true ↦ Some 0 | false ↦ further f ]))
          × ((b || among w (map name_of ks)) ≡ is_found (elim b [ true ↦ Some 0 | false ↦ further f ]))
      go true f ih = (refl, refl)
      go false (Some i) ih = (rw ih.0, ih.1)
      go false None ih = (rw ih.0, ih.1)

  pub find_kept : (ks : List Kept) → find w (map name_of ks) ≡ place_of (found_in (kept w) ks)
  find_kept ks = (tabled ks).0

  pub among_kept : (ks : List Kept) → among w (map name_of ks) ≡ is_found (found_in (kept w) ks)
  among_kept ks = (tabled ks).1

-- PACKING, from the end of the run backwards

pub plain_run : (s : List ℕ) → Plain (take (run name_byte s) s)
plain_run = run_taken name_byte

plain_drop : (i : ℕ) (w : List ℕ) → Plain w → Plain (drop i w)
plain_drop zero w p = p
plain_drop (suc i) [] p = p
plain_drop (suc i) (x ∷ w) p = plain_drop i w (run_first name_byte x w p).1

module _ (s : List ℕ) (n : ℕ) (is : n ≡ run name_byte s) where
  plain : (i : ℕ) → Plain (drop i (take n s))
  plain i = plain_drop i (take n s) (rw is (plain_run s))

  pub pack_start : 0 ≡ packed (drop n (take n s))
  unfolding packed
  pack_start = sym (rw (drop_of_length-le (take n s) {i = n} (omega (arith, length_run name_byte s n is))))

  module _ (i : ℕ) (more : 0 < i) (in_run : i ≤ n) where
    module _ (j : ℕ) (z : j ≡ i - 1) where
      led : drop j (take n s) ≡ get_or s j 0 ∷ drop i (take n s)
      led =
          let m : i ≡ suc j = omega arith in
          rw (m, drop-cons (take n s) j 0 (omega (arith, length_run name_byte s n is)), get_or-take n s j 0 (omega arith))

      pub pack_within : j < length s
      pack_within = omega (arith, run_fits name_byte s)

      pub pack_byte : name_byte (get_or s j 0) ≡ true
      pack_byte = (run_first name_byte _ _ (rw led at (plain j))).0

      pub pack_more : (w r v : ℕ) → w ≡ packed (drop i (take n s)) → r ≡ symbol (get_or s j 0) → v ≡ r + base * w → v ≡ packed (drop j (take n s))
      unfolding packed
      pack_more w r v e q y = rw (y, q, e, led)

    -- at most 11 symbols are packed before a turn, so that the sum fits
    module _ (few : n ≤ name_bytes) (w : ℕ) (sofar : w ≡ packed (drop i (take n s))) where
      pack_small : w < base ^ 11
      pack_small = rw sofar (packed_bound 11 _ (simp (length-drop, length_run name_byte s n is) (omega arith)) (plain i))

      pub pack_mul : (k : ℕ) → k ≡ base * w → Fits w64 k
      pack_mul k e = omega (arith, pack_small)

      pub pack_add : (r k : ℕ) → r < base → k ≡ r + base * w → Fits w64 k
      pack_add r k g e = omega (arith, pack_small)

pub pack_end : (s : List ℕ) (n i w : ℕ) → i ≤ 0 → w ≡ packed (drop i (take n s)) → w ≡ packed (take n s)
pack_end s n i w h e = let z : i ≡ 0 = omega arith in rw z at e

pub ruleset packing = (pack_start, pack_within, pack_byte, pack_more, pack_mul, pack_add, pack_end)

-- RESERVED WORDS, each by its number
pub reserved_is : (w : ℕ) → (eqb 547 w || (eqb 237 w || (eqb 699 w || (eqb 6309 w || (eqb 29464 w || (eqb 6313 w || false)))))) ≡ is_in w (map packed reserved)
unfolding any packed symbol
reserved_is w = rw (turned 547, turned 237, turned 699, turned 6309, turned 29464, turned 6313)
  where
    turned : (k : ℕ) → eqb k w ≡ eqb w k
    turned k = eqb_alike k w w k sym sym

-- the words are those numbers' names
pub reserved_named : (w : List ℕ) → Packable w → among w reserved ≡ is_in (packed w) (map packed reserved)
unfolding packed symbol named named_in byte_of
reserved_named w p = among_named w p (map packed reserved)
