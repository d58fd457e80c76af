-- Arrays that begin with a list: what a store behind the list makes of them, and how its parts are found again.
use Prim.Native.Nat.{ℕ, zero, suc, ◌+◌, ◌-◌, ◌<◌, ◌≤◌, min}
use Rattle.std.specs.Prelude.{◌≡◌, refl, take, drop, get_or}
use Rattle.std.proofs.Common.{sym, ◌∙◌, length-set, take_all}
use Rattle.std.proofs.Math.Path.{ap}
use mathlib.Core.List.{List, [], ◌∷◌, ◌++◌, map, append-nil, append_assoc, map-append}
use native.Mathlib.Omega.{arith}
use Rattle.std.proofs.Math.Nat.{sub-zero}
use Rattle.std.proofs.Math.Decide.{dec_le}
use Rattle.std.proofs.Math.ListN.{length, set, replicate, length-append, length-replicate, replicate-append-replicate}
use Rattle.std.proofs.lemmas.List.{length-map}
use Rattle.std.proofs.lemmas.List.Edits.{sets}
use Rattle.std.proofs.Math.Seq.{set-append_left, take-append_seam, drop-append_seam, set-append_seam, append_snoc}

-- a list at the start of an array of n, and d behind it
unfoldable pub padded : {A : Type 0} → ℕ → A → List A → List A
padded n d xs = xs ++ replicate (n - length xs) d

-- what is asked for behind the last is not there
pub take_low : {A : Type 0} (n c : ℕ) (all : List A) → length all ≡ n → take (min c n) all ≡ take c all
take_low n c all e = go (dec_le c n)
  where
    go : Dec (c ≤ n) → take (min c n) all ≡ take c all
    go (yes h) = let z : min c n ≡ c = omega arith in ap (λ n. take n all) z
    go (no h) = take_all (min c n) all (omega arith) ∙ sym (take_all c all (omega arith))

-- what stands behind a list reads as if nothing stood there
pub behind_at : {A : Type 0} (d : A) (m : ℕ) (xs : List A) (i : ℕ) → get_or (xs ++ replicate m d) i d ≡ get_or xs i d
behind_at {A} d m [] i = blank m i
  where
    blank : (m i : ℕ) → get_or (replicate m d) i d ≡ d
    blank zero i = refl
    blank (suc m) zero = refl
    blank (suc m) (suc i) = blank m i
behind_at d m (x ∷ xs) zero = refl
behind_at d m (x ∷ xs) (suc i) = behind_at d m xs i

module _ {A : Type 0} (n : ℕ) (d : A) where
  -- a place of the array, and a store within the list
  pub padded_at : (xs : List A) (i : ℕ) → get_or (padded n d xs) i d ≡ get_or xs i d
  unfolding padded
  padded_at xs i = behind_at d (n - length xs) xs i

  pub padded_store : (xs : List A) (i : ℕ) (a : A) → i < length xs → set (padded n d xs) i a ≡ padded n d (set xs i a)
  unfolding padded
  padded_store xs i a h = set-append_left xs (replicate (n - length xs) d) i a h ∙ ap (λ k. set xs i a ++ replicate (n - k) d) (sym (length-set xs i a))

  pub padded_length : (xs : List A) → length xs ≤ n → length (padded n d xs) ≡ n
  unfolding padded
  padded_length xs h = omega (arith, length-append xs (replicate (n - length xs) d), length-replicate (n - length xs) d)

  -- one more
  pub padded_set : (xs : List A) (a : A) → length xs < n → set (padded n d xs) (length xs) a ≡ padded n d (xs ++ (a ∷ []))
  unfolding padded
  padded_set xs a h =
      let m : n - length xs ≡ suc (n - (length xs + 1)) = omega arith in
      let k : length (xs ++ (a ∷ [])) ≡ length xs + 1 = length-append xs (a ∷ []) in
      rw (m, k, set-append_seam, append_snoc)

  -- what lies behind the list may as well be part of it
  pub padded_more : (xs : List A) (m : ℕ) → length xs + m ≤ n → padded n d (xs ++ replicate m d) ≡ padded n d xs
  unfolding padded
  padded_more xs m h =
      let k : length (xs ++ replicate m d) ≡ length xs + m = omega (arith, length-append xs (replicate m d), length-replicate m d) in
      let z : n - length xs ≡ m + (n - (length xs + m)) = omega arith in
      rw (k, append_assoc, replicate-append-replicate, z)

  -- the list, and a part of it
  pub padded_take : (xs : List A) → take (length xs) (padded n d xs) ≡ xs
  unfolding padded
  padded_take xs = take-append_seam xs _

  pub padded_part : (a b c : List A) → take (length b) (drop (length a) (padded n d (a ++ b ++ c))) ≡ b
  unfolding padded
  padded_part a b c = rw (append_assoc (a ++ b) c, append_assoc a b, drop-append_seam) (take-append_seam b _)

-- a list laid behind another
pub padded_sets : {A : Type 0} (n : ℕ) (d : A) (ys xs : List A) → length xs + length ys ≤ n → sets (padded n d xs) (length xs) ys ≡ padded n d (xs ++ ys)
padded_sets n d [] xs h = ap (padded n d) (sym (append-nil xs))
padded_sets n d (y ∷ ys) xs h =
    let one : length (xs ++ (y ∷ [])) ≡ suc (length xs) = length-append xs (y ∷ []) ∙ omega arith in
    ap (λ l. sets l (suc (length xs)) ys) (padded_set n d xs y (omega arith))
    ∙ ap (λ k. sets (padded n d (xs ++ (y ∷ []))) k ys) (sym one)
    ∙ padded_sets n d ys (xs ++ (y ∷ [])) (omega arith)
    ∙ ap (padded n d) (append_snoc xs y ys)

-- a list laid over the start of an array of one value
pub laid : {A : Type 0} (n : ℕ) (d : A) (ys : List A) → length ys ≤ n → sets (replicate n d) 0 ys ≡ padded n d ys
unfolding padded
laid n d ys h = ap (λ m. sets (replicate m d) 0 ys) (sym (sub-zero n)) ∙ padded_sets n d ys [] (omega arith)

-- the numbers of a list's members: one more
pub mapped_set : {A : Type 0} (n : ℕ) (f : A → ℕ) (xs : List A) (a : A) → length xs < n
    → set (padded n 0 (map f xs)) (length xs) (f a) ≡ padded n 0 (map f (xs ++ (a ∷ [])))
mapped_set n f xs a h = rw (← length-map xs f, padded_set n 0 (map f xs) (f a) (omega (arith, length-map xs f)), map-append f xs (a ∷ []))
