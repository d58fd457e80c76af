-- What tables of names stand for: their length, the name at a place, a name put, a part, and the table of good names.
use Prim.Native.Nat.{ℕ, zero, suc, ◌+◌, ◌-◌, ◌<◌, ◌≤◌}
use mathlib.Core.Path.{◌≡◌, refl, sym, ◌∙◌, ap}
use mathlib.Core.List.{List, [], ◌∷◌, ◌++◌, map, map-append}
use mathlib.Core.Logic.{inl, inr}
use native.Mathlib.Omega.{arith}
use lib.ListN.{length, take, drop, get_or, set, replicate, length-map, length-drop, get_or-map}
use lib.Seq.{length-take-le}
use Rattle.meaning.specs.Name.{Name}
use Rattle.limits.specs.Sizes.{name_room}
use Rattle.theory.specs.Lists.Members.{map_take, map_drop}
use Rattle.theory.specs.Lists.Padded.{padded, padded_at, padded_length, padded_part, padded_take, mapped_set}
use Rattle.theory.specs.Papers.Names.{Good}
use Rattle.theory.specs.Papers.Formed.{Each}
use Rattle.name.specs.declared.Name.{Name as Kept}
use Rattle.name.specs.Packed.{packed, named, named_in}
use Rattle.name.specs.Names.{kept, name_of, kept_in, names_in, name_at, words_of, table_words, table_of, put_in, part_of, Again}
use Rattle.name.proofs.Laws.{kept_length, kept_at}
use Rattle.name.proofs.Callers.{good_again}

-- THE NAMES OF ANY TABLE OR PART, as many as it has places
pub names_length : (t : List ℕ) → length (names_in t) ≡ length t
unfolding names_in
names_length t = length-map (kept_in t) name_of ∙ kept_length t

-- and as many kept ones
pub kept_count : (t : List ℕ) → length (kept_in t) ≡ length (names_in t)
unfolding names_in
kept_count t = sym (length-map (kept_in t) name_of)

-- some of them, as they are kept
pub names_taken : (t : List ℕ) (n i : ℕ) → take n (drop i (names_in t)) ≡ map name_of (take n (drop i (kept_in t)))
unfolding names_in
names_taken t n i = rw (map_drop name_of i (kept_in t), map_take name_of n (drop i (kept_in t)))

-- the table of a sheet has room for all its names
pub table_length : (t : List ℕ) → length t ≡ table_words → length (names_in t) ≡ name_room
table_length t h = names_length t ∙ h

-- the name at a place
pub name_at_lem : (t : List ℕ) (i : ℕ) → name_of (name_at t i) ≡ get_or (names_in t) i []
unfolding name_at names_in kept packed name_of named named_in
name_at_lem t i = sym (get_or-map name_of (kept_in t) i (kept []))

-- A PART: its names, also as they are kept, and how many they are
kept_taken : (n : ℕ) (t : List ℕ) → kept_in (take n t) ≡ take n (kept_in t)
unfolding kept_in
kept_taken zero t = refl
kept_taken (suc n) [] = refl
kept_taken (suc n) (v ∷ t) = ap (λ (l : List Kept). record { word = v } ∷ l) (kept_taken n t)

kept_dropped : (i : ℕ) (t : List ℕ) → kept_in (drop i t) ≡ drop i (kept_in t)
unfolding kept_in
kept_dropped zero t = refl
kept_dropped (suc i) [] = refl
kept_dropped (suc i) (v ∷ t) = kept_dropped i t

pub part_kept : (t : List ℕ) (i n : ℕ) → kept_in (part_of t i n) ≡ take n (drop i (kept_in t))
unfolding part_of
part_kept t i n = rw (kept_taken n (drop i t), kept_dropped i t)

pub part_names : (t : List ℕ) (i n : ℕ) → names_in (part_of t i n) ≡ take n (drop i (names_in t))
unfolding names_in
part_names t i n = rw (part_kept t i n) (sym (names_taken t n i))

pub part_length : (t : List ℕ) (i n : ℕ) → i + n ≤ length (names_in t) → length (names_in (part_of t i n)) ≡ n
part_length t i n h = rw (part_names t i n) (length-take-le n (drop i (names_in t)) (rw (length-drop i (names_in t)) (omega arith)))

pub part_fits : (t : List ℕ) (i n : ℕ) → i + n ≤ length (names_in t) → i + n ≤ length t
part_fits t i n h = omega (arith, names_length t)

-- what the code's part of the slice is
pub part_is : (t : List ℕ) (i n k : ℕ) → k ≡ i + n - i → take k (drop i t) ≡ part_of t i n
unfolding part_of
part_is t i n k e =
    let z : k ≡ n = omega arith in
    ap (λ m. take m (drop i t)) z

-- THE RETURNS of the functions on tables
pub blank_name : record { word = 0 } ≡ kept []
unfolding kept packed
blank_name = refl

pub blank_table : replicate table_words 0 ≡ table_of []
unfolding table_of words_of padded
blank_table = refl

pub at_behind : (t : List ℕ) (i : ℕ) → length t ≤ i → (k : Kept) → k ≡ kept [] → k ≡ name_at t i
unfolding name_at kept packed
at_behind t i h k e =
    let z : get_or t i 0 ≡ 0 = get_d_behind t i h in
    e ∙ sym (kept_at t i ∙ rw z)
  where
    get_d_behind : (l : List ℕ) (i : ℕ) → length l ≤ i → get_or l i 0 ≡ 0
    get_d_behind [] i h = refl
    get_d_behind (x ∷ l) zero h = absurd (omega arith)
    get_d_behind (x ∷ l) (suc i) h = get_d_behind l i (omega arith)

pub at_place : (t : List ℕ) (i : ℕ) → record { word = get_or t i 0 } ≡ name_at t i
unfolding name_at kept packed
at_place t i = sym (kept_at t i)

pub put_is : (t : List ℕ) (i : ℕ) (k : Kept) → set t i k.word ≡ put_in t i k
unfolding put_in
put_is t i k = refl

pub ruleset tabling = (names_length, blank_name, blank_table, at_behind, at_place, put_is, part_is)

-- NAMES THAT ARE TOLD AGAIN
pub again_each : (ns : List Name) → Each Good ns → Again ns
again_each [] h = refl
again_each (w ∷ ns) h = rw (good_again w (h w (inl refl)), again_each ns (λ x m. h x (inr m)))

pub again_more : (ns : List Name) (w : Name) → Again ns → name_of (kept w) ≡ w → Again (ns ++ (w ∷ []))
again_more ns w h e = rw (map-append kept ns (w ∷ []), map-append name_of, h, e)

-- THE TABLE OF NAMES
pub table_words_lem : (ns : List Name) → length ns ≤ name_room → length (table_of ns) ≡ table_words
unfolding table_of words_of
table_words_lem ns h = padded_length table_words 0 (map packed ns) (omega (arith, length-map ns packed))

-- a name put behind the last
pub table_put : (ns : List Name) (w : Name) → length ns < name_room → put_in (table_of ns) (length ns) (kept w) ≡ table_of (ns ++ (w ∷ []))
unfolding put_in table_of words_of kept
table_put ns w h = mapped_set table_words packed ns w h

-- it stands for those names, with blank ones behind them
names_append : (s t : List ℕ) → names_in (s ++ t) ≡ names_in s ++ names_in t
unfolding names_in kept_in
names_append [] t = refl
names_append (v ∷ s) t = ap (λ l. name_of (record { word = v }) ∷ l) (names_append s t)

names_blank : (m : ℕ) → names_in (replicate m 0) ≡ replicate m []
unfolding names_in kept_in name_of named named_in
names_blank zero = refl
names_blank (suc m) = ap (λ (l : List Name). [] ∷ l) (names_blank m)

names_kept : (ns : List Name) → names_in (map packed ns) ≡ map name_of (map kept ns)
unfolding names_in kept_in kept
names_kept [] = refl
names_kept (w ∷ ns) = ap (λ l. name_of (record { word = packed w }) ∷ l) (names_kept ns)

module _ (ns : List Name) (again : Again ns) where
  pub table_names : names_in (table_of ns) ≡ padded name_room [] ns
  unfolding table_of words_of padded
  table_names = names_append (map packed ns) _ ∙ rw (names_kept ns, again, names_blank, length-map ns packed)

  pub table_all : take (length ns) (names_in (table_of ns)) ≡ ns
  table_all = rw table_names (padded_take name_room [] ns)

  pub table_at : (i : ℕ) → get_or (names_in (table_of ns)) i [] ≡ get_or ns i []
  table_at i = rw table_names (padded_at name_room [] ns i)

pub table_part : (a b c : List Name) → Again (a ++ b ++ c) → take (length b) (drop (length a) (names_in (table_of (a ++ b ++ c)))) ≡ b
table_part a b c h = rw (table_names (a ++ b ++ c) h) (padded_part name_room [] a b c)
