-- Lines put into lent space, piece by piece, in the form in which the functions' answers need them.
use Prim.Native.Nat.{ℕ, ◌+◌, ◌%◌, ◌<◌, ◌≤◌}
use mathlib.Core.Path.{◌≡◌, refl}
use mathlib.Core.List.{List, [], ◌∷◌, ◌++◌, append_assoc}
use native.Mathlib.Omega.{arith}
use native.Mathlib.Numerals.{add-one}
use borrow.Author.Tests.{eq-eqb, ne_eqb}
use lib.ListN.{length, get_or, drop, drop_of_length-le}
use lib.Seq.{drop-cons}
use Rattle.meaning.specs.Text.{text, joined}
use Rattle.meaning.specs.Name.{Name}
use Rattle.meaning.specs.Number.{decimal}
use Rattle.meaning.specs.Write.{line}
use Rattle.meaning.specs.Desk.{refusal_text}
use Rattle.theory.specs.Writing.Lent.{Wrote, Left, left_start, left_end, left_room, left_more, wrote_none, first_room, second_room, both_written}
use Rattle.desk_print.specs.Lines.{start_text}

-- LINES

-- the line of a refusal
module _ (n p l : ℕ) (o : List ℕ) (fits : length (refusal_text n p l) ≤ length o) where
  abbrev numbers : List ℕ
  numbers = (decimal n ++ (32 ∷ [])) ++ ((decimal p ++ (32 ∷ [])) ++ (decimal l ++ (10 ∷ [])))

  abbrev places : List ℕ
  places = (decimal p ++ (32 ∷ [])) ++ (decimal l ++ (10 ∷ []))

  refusal_whole : refusal_text n p l ≡ text "refused=" ++ numbers
  unfolding refusal_text line
  refusal_whole = simp append_assoc

  refusal_fits : 0 + length (refusal_text n p l) ≤ length o
  refusal_fits = omega arith

  pub refusal_key : 0 + 8 ≤ length o
  refusal_key = first_room 0 (refusal_text n p l) (text "refused=") numbers o refusal_whole refusal_fits

  module _ (o1 : List ℕ) (a : ℕ) (v1 : Wrote 0 (text "refused=") o o1 a) where
    fits_1 : a + length numbers ≤ length o1
    fits_1 = second_room 0 (refusal_text n p l) (text "refused=") numbers o refusal_whole refusal_fits o1 a v1

    pub refusal_number : a + length (decimal n ++ (32 ∷ [])) ≤ length o1
    refusal_number = first_room a numbers (decimal n ++ (32 ∷ [])) places o1 refl fits_1

    module _ (o2 : List ℕ) (b : ℕ) (v2 : Wrote a (decimal n ++ (32 ∷ [])) o1 o2 b) where
      fits_2 : b + length places ≤ length o2
      fits_2 = second_room a numbers (decimal n ++ (32 ∷ [])) places o1 refl fits_1 o2 b v2

      pub refusal_paper : b + length (decimal p ++ (32 ∷ [])) ≤ length o2
      refusal_paper = first_room b places (decimal p ++ (32 ∷ [])) (decimal l ++ (10 ∷ [])) o2 refl fits_2

      module _ (o3 : List ℕ) (c : ℕ) (v3 : Wrote b (decimal p ++ (32 ∷ [])) o2 o3 c) where
        pub refusal_line_lem : c + length (decimal l ++ (10 ∷ [])) ≤ length o3
        refusal_line_lem = second_room b places (decimal p ++ (32 ∷ [])) (decimal l ++ (10 ∷ [])) o2 refl fits_2 o3 c v3

        pub refusal_done : (o4 : List ℕ) (r : ℕ) → Wrote c (decimal l ++ (10 ∷ [])) o3 o4 r → Wrote 0 (refusal_text n p l) o o4 r
        refusal_done o4 r v4 =
            let w2 = both_written b places (decimal p ++ (32 ∷ [])) (decimal l ++ (10 ∷ [])) o2 refl fits_2 o3 c v3 o4 r v4 in
            let w1 = both_written a numbers (decimal n ++ (32 ∷ [])) places o1 refl fits_1 o2 b v2 o4 r w2 in
            both_written 0 (refusal_text n p l) (text "refused=") numbers o refusal_whole refusal_fits o1 a v1 o4 r w1

pub ruleset refusing = (refusal_key, refusal_number, refusal_paper, refusal_line_lem, refusal_done)

-- the line of a task
module _ (n : Name) (t at : ℕ) (o : List ℕ) (fits : at + length (start_text n t) ≤ length o) where
  pub start_none : (t % 2 ≡ 1 → ⊥) → Wrote at (start_text n t) o o at
  unfolding start_text
  start_none e = wrote_none at (start_text n t) o fits (rw (ne_eqb (t % 2) 1 e))

  module _ (so : t % 2 ≡ 1) where
    start_is : start_text n t ≡ line (text "start") n
    unfolding start_text
    start_is = rw (eq-eqb (t % 2) 1 so)

    pub start_room : at + length (line (text "start") n) ≤ length o
    start_room = rw start_is at fits

    pub start_done : (o1 : List ℕ) (r : ℕ) → Wrote at (line (text "start") n) o o1 r → Wrote at (start_text n t) o o1 r
    start_done o1 r v = rw start_is v

pub ruleset starting = (start_none, start_room, start_done)

-- A LINE FOR EACH NUMBER OF A LIST, whatever the line is
module _ (f : ℕ → List ℕ) where
  joined_over : (ps : List ℕ) (i : ℕ) → length ps ≤ i → joined f (drop i ps) ≡ []
  unfolding joined
  joined_over ps i h = rw (drop_of_length-le ps h)

  joined_next : (ps : List ℕ) (i : ℕ) → i < length ps → joined f (drop i ps) ≡ f (get_or ps i 0) ++ joined f (drop (i + 1) ps)
  unfolding joined
  joined_next ps i h = rw (add-one, drop-cons ps i 0 h)

  pub listing_start : (at : ℕ) (ps o : List ℕ) → at + length (joined f ps) ≤ length o → Left at (joined f ps) o at (joined f (drop 0 ps)) o
  listing_start at ps o h = left_start at (joined f ps) o h

  module _ (at₀ : ℕ) (ps o₀ : List ℕ) (at i : ℕ) (o : List ℕ) (l : Left at₀ (joined f ps) o₀ at (joined f (drop i ps)) o) where
    pub listing_long : length o ≡ length o₀
    listing_long = l.long

    pub listing_end : length ps ≤ i → Wrote at₀ (joined f ps) o₀ o at
    listing_end h = left_end at₀ (joined f ps) o₀ at (joined f (drop i ps)) o l (joined_over ps i h)

    module _ (h : i < length ps) where
      pub listing_room : at + length (f (get_or ps i 0)) ≤ length o
      listing_room = left_room at₀ (joined f ps) o₀ at (joined f (drop i ps)) o l (f (get_or ps i 0)) (joined f (drop (i + 1) ps)) (joined_next ps i h)

      pub listing_more : (o1 : List ℕ) (b : ℕ) → Wrote at (f (get_or ps i 0)) o o1 b → (j : ℕ) → j ≡ i + 1
          → Left at₀ (joined f ps) o₀ b (joined f (drop j ps)) o1
      listing_more o1 b v j z =
          rw z
          (left_more at₀ (joined f ps) o₀ at (joined f (drop i ps)) o l (f (get_or ps i 0)) (joined f (drop (i + 1) ps)) (joined_next ps i h) o1 b v)

pub ruleset listing = (listing_start, listing_long, listing_end, listing_room, listing_more)
