-- Choices of one number from each of several lists, by their numbers from 0 on: the place in the first list is the highest digit.
use Rattle.std.specs.Prelude.{ℕ, ◌+◌, ◌*◌, ◌/◌, ◌%◌, List, [], ◌∷◌, map, length, get_or, take, drop}
use Rattle.meaning.specs.Text.{joined}

-- a flat list, taken apart into lists of these lengths
unfoldable pub split : List ℕ → List ℕ → List (List ℕ)
split [] l = []
split (n ∷ ns) l = take n l ∷ split ns (drop n l)

unfoldable pub sum : List ℕ → ℕ
sum [] = 0
sum (n ∷ ns) = n + sum ns

-- how many choices there are among lists of these lengths
unfoldable pub product : List ℕ → ℕ
product [] = 1
product (n ∷ ns) = n * product ns

abbrev pub size : List (List ℕ) → ℕ
size rs = product (map length rs)

-- the lists, one after another
abbrev pub strung : List (List ℕ) → List ℕ
strung rs = joined (λ r. r) rs

-- the choice with the number x
unfoldable pub choice : List (List ℕ) → ℕ → List ℕ
choice [] x = []
choice (r ∷ rs) x = get_or r (x / size rs) 0 ∷ choice rs (x % size rs)
