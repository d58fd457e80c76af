-- The doors for other languages, return by return: what is known there, and the answer that is asked.
use Prim.Native.Nat.{ℕ, ◌≤◌, ◌<◌}
use mathlib.Core.Path.{◌≡◌, refl, sym, ◌∙◌, ap}
use mathlib.Core.List.{List, ◌∷◌, [], ◌++◌}
use native.Mathlib.Omega.{arith}
use borrow.Author.Tests.{le-leb, lt-leb}
use lib.ListN.{length, drop, set}
use Rattle.sets.specs.Front.{Front}
use Rattle.meaning.specs.Refusal.{ROOM}
use Rattle.reply.specs.declared.Reply.{Reply}
use Rattle.exports.specs.Exports.{numbers, with_places, number_told, places_told, with_room}

-- a place among five
pub one_of_five : (n : ℕ) (places : List ℕ) → 5 ≤ length places → n < 5 → n < length places
one_of_five n places h k = omega arith

-- five places, each written
pub five_put : (a b c d e : ℕ) (places : List ℕ) → 5 ≤ length places
    → set (set (set (set (set places 0 a) 1 b) 2 c) 3 d) 4 e ≡ a ∷ b ∷ c ∷ d ∷ e ∷ drop 5 places
five_put a b c d e (p ∷ q ∷ r ∷ s ∷ t ∷ rest) h = refl
five_put a b c d e (p ∷ q ∷ r ∷ s ∷ []) h = absurd (omega arith)
five_put a b c d e (p ∷ q ∷ r ∷ []) h = absurd (omega arith)
five_put a b c d e (p ∷ q ∷ []) h = absurd (omega arith)
five_put a b c d e (p ∷ []) h = absurd (omega arith)
five_put a b c d e [] h = absurd (omega arith)

pub ruleset putting = (one_of_five, five_put)

-- too few places: ROOM, and all is as it was
module _ (places : List ℕ) (few : length places < 5) where
  with_few : {A : Type 0} (asked otherwise : A) → with_places places asked otherwise ≡ otherwise
  unfolding with_places
  with_few asked otherwise = rw (lt-leb 5 (length places) few)

  pub few_number : (x : Reply) → ROOM ≡ number_told places x
  unfolding number_told
  few_number x = sym (with_few _ ROOM)

  pub few_places : (x : Reply) → places ≡ places_told places x
  unfolding places_told
  few_places x = sym (with_few _ places)

  pub few_space : (x lent : List ℕ) → lent ≡ with_places places x lent
  few_space x lent = sym (with_few x lent)

-- five places: what the door told, and what it left in the space
module _ (places : List ℕ) (enough : 5 ≤ length places) where
  with_enough : {A : Type 0} (asked otherwise : A) → with_places places asked otherwise ≡ asked
  unfolding with_places
  with_enough asked otherwise = rw (le-leb 5 (length places) enough)

  module _ (told x : Reply) (is : told ≡ x) where
    pub told_number : (n : ℕ) → n ≡ told.number → n ≡ number_told places x
    unfolding number_told
    told_number n e = e ∙ ap (λ (r : Reply). r.number) is ∙ sym (with_enough x.number ROOM)

    pub told_places : (now : List ℕ) → now ≡ numbers told ++ drop 5 places → now ≡ places_told places x
    unfolding places_told
    told_places now e = e ∙ ap (λ (r : Reply). numbers r ++ drop 5 places) is ∙ sym (with_enough (numbers x ++ drop 5 places) places)

  pub told_space : (x lent now : List ℕ) → now ≡ x → now ≡ with_places places x lent
  told_space x lent now e = e ∙ sym (with_enough x lent)

pub ruleset telling = (few_number, few_places, few_space, told_number, told_places, told_space)

-- THE PROGRAMS

-- too little room, and all is as it was
module _ (least : ℕ) (lent : List ℕ) (few : length lent < least) where
  pub no_room : {A : Type 0} (asked otherwise : A) → otherwise ≡ with_room least lent asked otherwise
  unfolding with_room
  no_room asked otherwise = sym (rw (lt-leb least (length lent) few))

-- room for all: what was printed, and how long it is
module _ (least : ℕ) (lent : List ℕ) (enough : least ≤ length lent) (l : List ℕ) (n : ℕ) (now : List ℕ) (printed : Front l n lent now) where
  pub room_count : n ≡ with_room least lent (length l) 0
  unfolding with_room
  room_count = printed.count ∙ sym (rw (le-leb least (length lent) enough))

  pub room_space : now ≡ with_room least lent (l ++ drop (length l) lent) lent
  unfolding with_room
  room_space = printed.list ∙ ap (λ k. l ++ drop k lent) printed.count ∙ sym (rw (le-leb least (length lent) enough))

pub ruleset printing = (no_room, room_count, room_space)
