-- Lists of numbers in the front of lent space, and a number put in among them.
use Rattle.std.specs.Prelude.{ℕ, suc, ◌≡◌, List, ◌∷◌, ◌++◌, ltb, length, take, drop}
use Rattle.meaning.specs.Text.{run}

-- `after` begins with the list l, which is n long, and is as `before` behind it
pub record Front (l : List ℕ) (n : ℕ) (before after : List ℕ) : Type 0 where
  pub count : n ≡ length l
  pub list : after ≡ l ++ drop n before

-- how many numbers at the start are below v
abbrev pub below : ℕ → List ℕ → ℕ
below v l = run (λ x. ltb x v) l

-- v put in at `pos`, and what stood from there to n moved up by one, over what stood at n
unfoldable pub shifted : ℕ → ℕ → ℕ → List ℕ → List ℕ
shifted pos n v a = take pos a ++ (v ∷ (drop pos (take n a) ++ drop (suc n) a))
