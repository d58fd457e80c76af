-- Texts as lists of bytes, and the few list functions that all definitions share.
use Rattle.std.specs.Prelude.{ℕ, zero, suc, ◌≡◌, Bool, true, false, ◌||◌, ◌⊎◌, List, [], ◌∷◌, ◌++◌, eqb}
use Prim.Native.Char.{code}
use Prim.Native.String as S
use Prim.Native.String.{String}
use Rattle.std.proofs.Math.Option.{Option, none, some}

-- a quoted text as the list of its bytes
abbrev pub text : String → List ℕ
text S.[] = []
text (S.◌∷◌ c s) = code c ∷ text s

-- two texts are the same
unfoldable pub same : List ℕ → List ℕ → Bool
same [] [] = true
same [] (y ∷ t) = false
same (x ∷ s) [] = false
same (x ∷ s) (y ∷ t) = elim (eqb x y) [ true ↦ same s t | false ↦ false ]

-- the second text begins with the first
unfoldable pub begins : List ℕ → List ℕ → Bool
begins [] s = true
begins (y ∷ k) [] = false
begins (y ∷ k) (x ∷ s) = elim (eqb x y) [ true ↦ begins k s | false ↦ false ]

-- the length of the longest run at the start whose bytes all pass the test
unfoldable pub run : (ℕ → Bool) → List ℕ → ℕ
run p [] = 0
run p (x ∷ s) = elim (p x) [ true ↦ suc (run p s) | false ↦ 0 ]

-- one place further on
abbrev pub later : Option ℕ → Option ℕ
later none = none
later (some i) = some (suc i)

-- the place, from 0, of the first of the texts that is w
unfoldable pub find : List ℕ → List (List ℕ) → Option ℕ
find w [] = none
find w (k ∷ ks) = elim (same w k) [ true ↦ some 0 | false ↦ later (find w ks) ]

-- w is one of the texts
unfoldable pub among : List ℕ → List (List ℕ) → Bool
among w [] = false
among w (k ∷ ks) = same w k || among w ks

module _ {A : Type 0} where
  -- some member passes the test
  unfoldable pub any : (A → Bool) → List A → Bool
  any p [] = false
  any p (x ∷ xs) = p x || any p xs

  -- the members that pass the test
  unfoldable pub keep : (A → Bool) → List A → List A
  keep p [] = []
  keep p (x ∷ xs) = elim (p x) [ true ↦ x ∷ keep p xs | false ↦ keep p xs ]

  -- one list after another
  unfoldable pub joined : {B : Type 0} → (A → List B) → List A → List B
  joined f [] = []
  joined f (x ∷ xs) = f x ++ joined f xs

-- the numbers from i on, n of them
unfoldable pub from : ℕ → ℕ → List ℕ
from i zero = []
from i (suc n) = i ∷ from (suc i) n

-- a member of a list
abbrev pub In : {A : Type 0} → A → List A → Type 0
In a [] = ⊥
In a (x ∷ xs) = (a ≡ x) ⊎ In a xs

-- the same of a number, as a test
abbrev pub is_in : ℕ → List ℕ → Bool
is_in i xs = any (eqb i) xs
