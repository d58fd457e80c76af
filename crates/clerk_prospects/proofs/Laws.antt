-- The outlook in names, piece by piece, in the form in which the functions' answers need it.
use Prim.Native.Nat.{ℕ, suc, ◌+◌, ◌/◌, ◌%◌, ◌^◌, ◌<◌, ◌≤◌}
use mathlib.Core.Path.{◌≡◌, refl, sym, ◌∙◌, ap, ap₂, subst}
use mathlib.Core.Bool.{Bool, true, false, not, ◌&&◌, ◌||◌, cond}
use mathlib.Core.List.{List, [], ◌∷◌, ◌++◌}
use native.Mathlib.Omega.{arith}
use native.Mathlib.Nat.{div-div-eq-div-mul, pow-suc, pow-zero, div-one}
use native.Mathlib.Numerals.{add-one}
use borrow.Author.Tests.{eq-eqb, ne_eqb, lt-ltb, not-true, not-false}
use lib.Bits.{bit_and, bit_or}
use lib.Dec.{eqb}
use lib.ListN.{length, get_or, drop, drop_of_length-le}
use lib.Seq.{drop-cons}
use Rattle.meaning.specs.Limits.{status_limit}
use Rattle.meaning.specs.Text.{text, any, joined}
use Rattle.meaning.specs.Name.{Name}
use Rattle.meaning.specs.Refusal.{taken}
use Rattle.meaning.specs.Prospect.{always, never, still_open, yes_in, prospect, yes_names}
use Rattle.meaning.specs.Write.{line}
use Rattle.meaning.specs.Clerk.{prospect_word, prospect_lines, spaced, pattern_line, prospects_told}
use Rattle.name.specs.declared.Name.{Name as Kept}
use Rattle.name.specs.Names.{name_of, names_in, name_at, table_words, part_of}
use Rattle.name.proofs.Tables.{name_at_lem, part_names, part_length}
use Rattle.sheet_tables.specs.declared.Heads.{Heads}
use Rattle.sheet_tables.proofs.Names.{statuses_held}
use Rattle.sheet_tables.specs.Heads.{names_at, Sized}
use Rattle.theory.specs.Writing.Lent.{Wrote, Left, left_start, left_end, left_room, left_more, wrote_none, first_room, second_room, both_written}
use Rattle.desk_print.proofs.Laws.{listing_room}
use Rattle.graph_order.specs.Masks.{has}
use Rattle.graph_order.proofs.Bits.{has_none, has_full, has_and, has_either}
use Rattle.clerk_prospects.specs.declared.Common.{Common}
use Rattle.clerk_prospects.specs.Lines.{all_with, some_with, common_of, lowest, word_line, word_lines, name_text, names_text, status_names_of}

-- THE BITS THAT PATTERNS HAVE IN COMMON

-- what the patterns that are left leave of the bits, or add to them, is all
pub record Sharing (ps : List ℕ) (all some i : ℕ) : Type 0 where
  pub every : all_with all (drop i ps) ≡ all_with 4294967295 ps
  pub any_of : some_with some (drop i ps) ≡ some_with 0 ps

pub common_start : (ps : List ℕ) → Sharing ps 4294967295 0 0
common_start ps = record { every = refl; any_of = refl }

module _ (ps : List ℕ) (all some i : ℕ) (inv : Sharing ps all some i) where
  pub common_more : i < length ps → (a s j : ℕ) → a ≡ bit_and all (get_or ps i 0) → s ≡ bit_or some (get_or ps i 0) → j ≡ i + 1 → Sharing ps a s j
  unfolding all_with some_with
  common_more h a s j p q r = record {
    every = rw (p, r, add-one) (sym (ap (all_with all) (drop-cons ps i 0 h)) ∙ inv.every);
    any_of = rw (q, r, add-one) (sym (ap (some_with some) (drop-cons ps i 0 h)) ∙ inv.any_of);
  }

  pub common_end : length ps ≤ i → record { all = all; some = some } ≡ common_of ps
  unfolding all_with some_with common_of
  common_end h =
      ap₂ (λ a s. record { all = a; some = s })
      (sym (ap (all_with all) (drop_of_length-le ps h)) ∙ inv.every)
      (sym (ap (some_with some) (drop_of_length-le ps h)) ∙ inv.any_of)

pub ruleset common = (common_start, common_more, common_end)

-- A STATUS

-- the word that the lowest bits tell
module _ (n : Name) (all some : ℕ) where
  always_is : all % 2 ≡ 1 → word_line n all some ≡ line n (text "always")
  unfolding word_line
  always_is a = rw (eq-eqb (all % 2) 1 a)

  open_is : (all % 2 ≡ 1 → ⊥) → some % 2 ≡ 1 → word_line n all some ≡ line n (text "open")
  unfolding word_line
  open_is a s = rw (ne_eqb (all % 2) 1 a, eq-eqb (some % 2) 1 s)

  never_is : (all % 2 ≡ 1 → ⊥) → (some % 2 ≡ 1 → ⊥) → word_line n all some ≡ line n (text "never")
  unfolding word_line
  never_is a s = rw (ne_eqb (all % 2) 1 a, ne_eqb (some % 2) 1 s)

  module _ (at : ℕ) (o : List ℕ) where
    module _ (fits : at + length (word_line n all some) ≤ length o) where
      pub always_room : all % 2 ≡ 1 → at + length (line n (text "always")) ≤ length o
      always_room a = rw (always_is a) at fits

      pub open_room : (all % 2 ≡ 1 → ⊥) → some % 2 ≡ 1 → at + length (line n (text "open")) ≤ length o
      open_room a s = rw (open_is a s) at fits

      pub never_room : (all % 2 ≡ 1 → ⊥) → (some % 2 ≡ 1 → ⊥) → at + length (line n (text "never")) ≤ length o
      never_room a s = rw (never_is a s) at fits

    module _ (o1 : List ℕ) (r : ℕ) where
      pub always_done : all % 2 ≡ 1 → Wrote at (line n (text "always")) o o1 r → Wrote at (word_line n all some) o o1 r
      always_done a v = subst (λ w. Wrote at w o o1 r) (sym (always_is a)) v

      pub open_done : (all % 2 ≡ 1 → ⊥) → some % 2 ≡ 1 → Wrote at (line n (text "open")) o o1 r → Wrote at (word_line n all some) o o1 r
      open_done a s v = subst (λ w. Wrote at w o o1 r) (sym (open_is a s)) v

      pub never_done : (all % 2 ≡ 1 → ⊥) → (some % 2 ≡ 1 → ⊥) → Wrote at (line n (text "never")) o o1 r → Wrote at (word_line n all some) o o1 r
      never_done a s v = subst (λ w. Wrote at w o o1 r) (sym (never_is a s)) v

pub ruleset wording = (always_room, open_room, never_room, always_done, open_done, never_done)

-- THE STATUSES

words_over : (ns : List Name) (i all some : ℕ) → length ns ≤ i → word_lines (drop i ns) all some ≡ []
unfolding word_lines
words_over ns i all some h = rw (drop_of_length-le ns h)

words_next : (ns : List Name) (i all some : ℕ) → i < length ns
    → word_lines (drop i ns) all some ≡ word_line (get_or ns i []) all some ++ word_lines (drop (i + 1) ns) (all / 2) (some / 2)
unfolding word_lines
words_next ns i all some h = rw (add-one, drop-cons ns i [] h)

-- of a part of a table
module _ (t : List ℕ) (a₀ s₀ : ℕ) (o₀ : List ℕ) where
  abbrev words_of_all : List ℕ
  words_of_all = word_lines (names_in t) a₀ s₀

  -- the lines begin at the start of the space
  pub words_start : length (word_lines (names_in t) a₀ s₀) ≤ length o₀ → Left 0 (word_lines (names_in t) a₀ s₀) o₀ 0 (word_lines (drop 0 (names_in t)) a₀ s₀) o₀
  words_start h = left_start 0 words_of_all o₀ (omega arith)

  module _ (at all some i : ℕ) (o : List ℕ) (l : Left 0 (word_lines (names_in t) a₀ s₀) o₀ at (word_lines (drop i (names_in t)) all some) o) where
    pub words_long : length o ≡ length o₀
    words_long = l.long

    module _ (n : ℕ) (count : n ≡ length (names_in t)) where
      pub words_end : n ≤ i → Wrote 0 (word_lines (names_in t) a₀ s₀) o₀ o at
      words_end h = left_end 0 words_of_all o₀ at (word_lines (drop i (names_in t)) all some) o l (words_over (names_in t) i all some (omega arith))

      module _ (h : i < n) (w : Kept) (called : w ≡ name_at t i) where
        abbrev after : List ℕ
        after = word_lines (drop (i + 1) (names_in t)) (all / 2) (some / 2)

        next_words : word_lines (drop i (names_in t)) all some ≡ word_line (name_of w) all some ++ after
        next_words = rw (called, name_at_lem t i) (words_next (names_in t) i all some (omega arith))

        pub words_room : at + length (word_line (name_of w) all some) ≤ length o
        words_room = left_room 0 words_of_all o₀ at (word_lines (drop i (names_in t)) all some) o l (word_line (name_of w) all some) after next_words

        pub words_more : (o1 : List ℕ) (b : ℕ) → Wrote at (word_line (name_of w) all some) o o1 b → (a s j : ℕ) → a ≡ all / 2 → s ≡ some / 2 → j ≡ i + 1
            → Left 0 (word_lines (names_in t) a₀ s₀) o₀ b (word_lines (drop j (names_in t)) a s) o1
        words_more o1 b v a s j p q r =
            rw (p, q, r) (left_more 0 words_of_all o₀ at (word_lines (drop i (names_in t)) all some) o l
            (word_line (name_of w) all some) after next_words o1 b v)

pub ruleset words = (words_start, words_long, words_end, words_room, words_more)

-- A NAME OF A PATTERN

module _ (n : Name) (p at : ℕ) (behind : Bool) (o : List ℕ) (fits : at + length (name_text behind n p) ≤ length o) where
  pub name_none : (p % 2 ≡ 1 → ⊥) → Wrote at (name_text behind n p) o o at
  unfolding name_text
  name_none e = wrote_none at (name_text behind n p) o fits (rw (ne_eqb (p % 2) 1 e))

  module _ (bit : p % 2 ≡ 1) where
    first_is : behind ≡ false → name_text behind n p ≡ n
    unfolding name_text
    first_is e = rw (eq-eqb (p % 2) 1 bit, e)

    later_is : behind ≡ true → name_text behind n p ≡ text " " ++ n
    unfolding name_text
    later_is e = rw (eq-eqb (p % 2) 1 bit, e)

    pub name_room_lem : not behind ≡ true → at + length n ≤ length o
    name_room_lem e = rw (first_is (not-true behind e)) at fits

    pub name_done : not behind ≡ true → (o1 : List ℕ) (r : ℕ) → Wrote at n o o1 r → Wrote at (name_text behind n p) o o1 r
    name_done e o1 r v = subst (λ w. Wrote at w o o1 r) (sym (first_is (not-true behind e))) v

    module _ (some : not behind ≡ false) where
      whole : name_text behind n p ≡ text " " ++ n
      whole = later_is (not-false behind some)

      pub gap_room : at + 1 ≤ length o
      gap_room = first_room at (name_text behind n p) (text " ") n o whole fits

      module _ (o1 : List ℕ) (a : ℕ) (v : Wrote at (32 ∷ []) o o1 a) where
        pub later_room : a + length n ≤ length o1
        later_room = second_room at (name_text behind n p) (text " ") n o whole fits o1 a v

        pub later_done : (o2 : List ℕ) (r : ℕ) → Wrote a n o1 o2 r → Wrote at (name_text behind n p) o o2 r
        later_done = both_written at (name_text behind n p) (text " ") n o whole fits o1 a v

pub ruleset yes = (name_none, name_room_lem, name_done, gap_room, later_room, later_done)

-- THE NAMES OF A PATTERN

names_over : (ns : List Name) (i p : ℕ) (behind : Bool) → length ns ≤ i → names_text behind (drop i ns) p ≡ []
unfolding names_text
names_over ns i p behind h = rw (drop_of_length-le ns h)

names_next : (ns : List Name) (i p : ℕ) (behind : Bool) → i < length ns
    → names_text behind (drop i ns) p ≡ name_text behind (get_or ns i []) p ++ names_text (behind || eqb (p % 2) 1) (drop (i + 1) ns) (p / 2)
unfolding names_text
names_next ns i p behind h = rw (add-one, drop-cons ns i [] h)

-- of a part of a table
module _ (at₀ : ℕ) (t : List ℕ) (p₀ : ℕ) (o₀ : List ℕ) where
  abbrev all_names_lem : List ℕ
  all_names_lem = names_text false (names_in t) p₀

  pub names_start : at₀ + length (names_text false (names_in t) p₀) ≤ length o₀
      → Left at₀ (names_text false (names_in t) p₀) o₀ at₀ (names_text false (drop 0 (names_in t)) p₀) o₀
  names_start h = left_start at₀ all_names_lem o₀ h

  module _ (at : ℕ) (behind : Bool) (p i : ℕ) (o : List ℕ)
      (l : Left at₀ (names_text false (names_in t) p₀) o₀ at (names_text behind (drop i (names_in t)) p) o) where
    pub names_long : length o ≡ length o₀
    names_long = l.long

    module _ (n : ℕ) (count : n ≡ length (names_in t)) where
      pub names_end : n ≤ i → Wrote at₀ (names_text false (names_in t) p₀) o₀ o at
      names_end h = left_end at₀ all_names_lem o₀ at (names_text behind (drop i (names_in t)) p) o l (names_over (names_in t) i p behind (omega arith))

      module _ (h : i < n) (w : Kept) (called : w ≡ name_at t i) where
        abbrev rest : List ℕ
        rest = names_text (behind || eqb (p % 2) 1) (drop (i + 1) (names_in t)) (p / 2)

        next_names : names_text behind (drop i (names_in t)) p ≡ name_text behind (name_of w) p ++ rest
        next_names = rw (called, name_at_lem t i) (names_next (names_in t) i p behind (omega arith))

        pub names_room : at + length (name_text behind (name_of w) p) ≤ length o
        names_room = left_room at₀ all_names_lem o₀ at (names_text behind (drop i (names_in t)) p) o l (name_text behind (name_of w) p) rest next_names

        pub names_more : (o1 : List ℕ) (b : ℕ) → Wrote at (name_text behind (name_of w) p) o o1 b → (q j : ℕ) → q ≡ p / 2 → j ≡ i + 1
            → Left at₀ (names_text false (names_in t) p₀) o₀ b (names_text (behind || eqb (p % 2) 1) (drop j (names_in t)) q) o1
        names_more o1 b v q j e f =
            rw (e, f) (left_more at₀ all_names_lem o₀ at (names_text behind (drop i (names_in t)) p) o l
            (name_text behind (name_of w) p) rest next_names o1 b v)

pub ruleset names = (names_start, names_long, names_end, names_room, names_more)

-- they are those of the statuses that are yes, "one space between"
behind_are : (ns : List Name) (p : ℕ) → names_text true ns p ≡ joined (λ m. text " " ++ m) (yes_names ns p)
unfolding names_text name_text yes_names joined
behind_are [] p = refl
behind_are (n ∷ ns) p = go (eqb (p % 2) 1) (behind_are ns (p / 2))
  where
    go : (b : Bool) → names_text true ns (p / 2) ≡ joined (λ m. text " " ++ m) (yes_names ns (p / 2))
        → cond b (text " " ++ n) [] ++ names_text true ns (p / 2) ≡ joined (λ m. text " " ++ m) (cond b (n ∷ yes_names ns (p / 2)) (yes_names ns (p / 2)))
    go true e = ap (λ w. (text " " ++ n) ++ w) e
    go false e = e

first_are : (ns : List Name) (p : ℕ) → names_text false ns p ≡ spaced (yes_names ns p)
unfolding names_text name_text yes_names
first_are [] p = refl
first_are (n ∷ ns) p = go (eqb (p % 2) 1) (first_are ns (p / 2))
  where
    go : (b : Bool) → names_text false ns (p / 2) ≡ spaced (yes_names ns (p / 2))
        → cond b n [] ++ names_text b ns (p / 2) ≡ spaced (cond b (n ∷ yes_names ns (p / 2)) (yes_names ns (p / 2)))
    go true e = ap (λ w. n ++ w) (behind_are ns (p / 2))
    go false e = e

-- THE LINE OF A PATTERN

module _ (ns : List Name) (p at : ℕ) (o : List ℕ) (fits : at + length (pattern_line ns p) ≤ length o) where
  abbrev listed : List ℕ
  listed = names_text false ns p

  pattern_whole : pattern_line ns p ≡ text "outlook=" ++ (listed ++ (10 ∷ []))
  unfolding pattern_line line
  pattern_whole = rw (← first_are ns p)

  pub pattern_key : at + 8 ≤ length o
  pattern_key = first_room at (pattern_line ns p) (text "outlook=") (listed ++ (10 ∷ [])) o pattern_whole fits

  module _ (o1 : List ℕ) (a : ℕ) (v1 : Wrote at (text "outlook=") o o1 a) where
    value_fits : a + length (listed ++ (10 ∷ [])) ≤ length o1
    value_fits = second_room at (pattern_line ns p) (text "outlook=") (listed ++ (10 ∷ [])) o pattern_whole fits o1 a v1

    pub pattern_names : a + length (names_text false ns p) ≤ length o1
    pattern_names = first_room a (listed ++ (10 ∷ [])) listed (10 ∷ []) o1 refl value_fits

    module _ (o2 : List ℕ) (b : ℕ) (v2 : Wrote a (names_text false ns p) o1 o2 b) where
      pub pattern_feed : b + 1 ≤ length o2
      pattern_feed = second_room a (listed ++ (10 ∷ [])) listed (10 ∷ []) o1 refl value_fits o2 b v2

      pub pattern_done : (o3 : List ℕ) (r : ℕ) → Wrote b (10 ∷ []) o2 o3 r → Wrote at (pattern_line ns p) o o3 r
      pattern_done o3 r v3 =
          both_written at (pattern_line ns p) (text "outlook=") (listed ++ (10 ∷ [])) o pattern_whole fits o1 a v1 o3 r
          (both_written a (listed ++ (10 ∷ [])) listed (10 ∷ []) o1 refl value_fits o2 b v2 o3 r v3)

pub ruleset patterning = (pattern_key, pattern_names, pattern_feed, pattern_done)

-- room for a line among those of the patterns
pub patterns_room : (ns : List Name) (at₀ : ℕ) (ps o₀ : List ℕ) (at i : ℕ) (o : List ℕ)
    → Left at₀ (joined (pattern_line ns) ps) o₀ at (joined (pattern_line ns) (drop i ps)) o → i < length ps
    → at + length (pattern_line ns (get_or ps i 0)) ≤ length o
patterns_room ns = listing_room (pattern_line ns)

-- ALL LINES

-- a bit of what all have, and of what some has
all_has : (ps : List ℕ) (a x : ℕ) → has (all_with a ps) x ≡ has a x && not (any (λ p. not (yes_in x p)) ps)
unfolding all_with any has yes_in
all_has [] a x = go (has a x)
  where
    go : (b : Bool) → b ≡ b && true
    go true = refl
    go false = refl
all_has (p ∷ ps) a x =
    all_has ps (bit_and a p) x
    ∙ ap (λ b. b && not (any (λ p. not (yes_in x p)) ps)) (has_and a p x)
    ∙ go (has a x) (yes_in x p) (any (λ p. not (yes_in x p)) ps)
  where
    go : (a b c : Bool) → (a && b) && not c ≡ a && not (not b || c)
    go true true c = refl
    go true false c = refl
    go false b c = refl

some_has : (ps : List ℕ) (a x : ℕ) → has (some_with a ps) x ≡ has a x || any (yes_in x) ps
unfolding some_with any has yes_in
some_has [] a x = go (has a x)
  where
    go : (b : Bool) → b ≡ b || false
    go true = refl
    go false = refl
some_has (p ∷ ps) a x = some_has ps (bit_or a p) x ∙ ap (λ b. b || any (yes_in x) ps) (has_either a p x) ∙ go (has a x) (yes_in x p) (any (yes_in x) ps)
  where
    go : (a b c : Bool) → (a || b) || c ≡ a || (b || c)
    go true b c = refl
    go false b c = refl

module _ (ps : List ℕ) where
  abbrev every : ℕ
  every = all_with 4294967295 ps

  abbrev some : ℕ
  some = some_with 0 ps

  -- a pattern has 32 bits
  every_bit : (x : ℕ) → x < status_limit → has every x ≡ not (any (λ p. not (yes_in x p)) ps)
  every_bit x h = all_has ps 4294967295 x ∙ ap (λ b. b && not (any (λ p. not (yes_in x p)) ps)) (has_full status_limit x ∙ lt-ltb x status_limit h)

  some_bit : (x : ℕ) → has some x ≡ any (yes_in x) ps
  some_bit x = some_has ps 0 x ∙ ap (λ b. b || any (yes_in x) ps) (has_none x)

  word_is : (x : ℕ) → x < status_limit → lowest (every / 2 ^ x) (some / 2 ^ x) ≡ prospect ps x
  unfolding prospect has
  word_is x h = rw (every_bit x h, some_bit x) (go (any (λ p. not (yes_in x p)) ps))
    where
      go : (b : Bool) → cond (not b) always (cond (any (yes_in x) ps) still_open never) ≡ cond b (cond (any (yes_in x) ps) still_open never) always
      go true = refl
      go false = refl

  half : (n x : ℕ) → n / 2 ^ x / 2 ≡ n / 2 ^ suc x
  half n x = div-div-eq-div-mul n (2 ^ x) 2 ∙ ap (λ m. n / m) (sym (pow-suc 2 x))

  words_from_lem : (ns : List Name) (x : ℕ) → x + length ns ≤ status_limit → word_lines ns (every / 2 ^ x) (some / 2 ^ x) ≡ prospect_lines ps x ns
  unfolding word_lines word_line prospect_lines
  words_from_lem [] x h = refl
  words_from_lem (n ∷ ns) x h =
      ap₂ ◌++◌ (ap (λ w. line n (prospect_word w)) (word_is x (omega arith)))
      (ap₂ (word_lines ns) (half every x) (half some x) ∙ words_from_lem ns (suc x) (omega arith))

  words_are : (ns : List Name) → length ns ≤ status_limit → word_lines ns every some ≡ prospect_lines ps 0 ns
  words_are ns h =
      let first : (n : ℕ) → n / 2 ^ 0 ≡ n = λ n. ap (λ m. n / m) (pow-zero 2) ∙ div-one n in
      ap₂ (word_lines ns) (sym (first every)) (sym (first some)) ∙ words_from_lem ns 0 (omega arith)

module _ (ns : List Name) (ps : List ℕ) (few : length ns ≤ status_limit) (c : Common) (is : c ≡ common_of ps) (o : List ℕ)
    (fits : length (prospects_told ns (taken ps)) ≤ length o) where
  abbrev told : List ℕ
  told = prospects_told ns (taken ps)

  abbrev of_statuses : List ℕ
  of_statuses = word_lines ns c.all c.some

  abbrev of_patterns : List ℕ
  of_patterns = joined (pattern_line ns) ps

  statuses_are : of_statuses ≡ prospect_lines ps 0 ns
  unfolding common_of
  statuses_are = ap (λ (c : Common). word_lines ns c.all c.some) is ∙ words_are ps ns few

  lines_whole : told ≡ of_statuses ++ of_patterns
  unfolding prospects_told
  lines_whole = rw statuses_are

  lines_fit : 0 + length told ≤ length o
  lines_fit = omega arith

  pub lines_words : length (word_lines ns c.all c.some) ≤ length o
  lines_words = omega (arith, first_room 0 told of_statuses of_patterns o lines_whole lines_fit)

  module _ (o1 : List ℕ) (a : ℕ) (v : Wrote 0 (word_lines ns c.all c.some) o o1 a) where
    pub lines_patterns : a + length (joined (pattern_line ns) ps) ≤ length o1
    lines_patterns = second_room 0 told of_statuses of_patterns o lines_whole lines_fit o1 a v

    pub lines_done : (o2 : List ℕ) (r : ℕ) → Wrote a (joined (pattern_line ns) ps) o1 o2 r → Wrote 0 (prospects_told ns (taken ps)) o o2 r
    lines_done = both_written 0 told of_statuses of_patterns o lines_whole lines_fit o1 a v

pub ruleset lining = (lines_words, lines_patterns, lines_done)

-- THE NAMES OF THE STATUSES

-- the part of the tables that holds them
module _ (h : Heads) (sized : Sized h) (long : length h.names ≡ table_words) where
  module _ (t : List ℕ) (is : t ≡ part_of h.names (h.fields + h.events) (h.stages + h.miles)) where
    pub statuses_few : length (names_in t) ≤ status_limit
    statuses_few =
        let n = part_length h.names (h.fields + h.events) (h.stages + h.miles) (statuses_held h sized long) in
        rw is (omega (arith, n, sized.few_statuses))

    names_are : names_in t ≡ status_names_of h
    unfolding names_at
    names_are = rw is (part_names h.names (h.fields + h.events) (h.stages + h.miles))

    module _ (ps o : List ℕ) where
      pub statuses_room : length (prospects_told (status_names_of h) (taken ps)) ≤ length o → length (prospects_told (names_in t) (taken ps)) ≤ length o
      statuses_room fits = rw names_are fits

      pub statuses_done : (o1 : List ℕ) (r : ℕ) → Wrote 0 (prospects_told (names_in t) (taken ps)) o o1 r
          → Wrote 0 (prospects_told (status_names_of h) (taken ps)) o o1 r
      statuses_done o1 r v = rw names_are at v

pub ruleset between = (statuses_held, statuses_few, statuses_room, statuses_done)
