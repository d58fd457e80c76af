-- The cuts of a field, from the words of conditions. A cut is told by its code, as words and values have it: its place on the scale and 1 more.
use Rattle.std.specs.Prelude.{ℕ, suc, ◌/◌, ◌%◌, cond, ◌&&◌, List, [], ◌∷◌, ◌++◌, leb, ltb, eqb}
use Rattle.meaning.specs.Text.{joined}
use Rattle.meaning.specs.Limits.{highest}
use Rattle.meaning.specs.Outlook.{insert, ascending}

-- "at least -999999999 and at most 1000000000": the number of this code, if a cut can be there
unfoldable pub cut_code : ℕ → List ℕ
cut_code n = cond (leb 2 n && leb n (suc highest)) (n ∷ []) []

-- the cuts of the field f by one word: a comparison with "below n" cuts at n, one with "equal to n" at n and at the next
unfoldable pub word_cuts : ℕ → ℕ → List ℕ
word_cuts f w = cond (leb 4 (w % 8) && eqb (w / 8 % 16) f) (cond (ltb (w % 8) 6) (cut_code (w / 256)) (cut_code (w / 256) ++ cut_code (suc (w / 256)))) []

-- the cuts of the field, once, ascending
unfoldable pub cut_codes : ℕ → List ℕ → List ℕ
cut_codes f ws = ascending (joined (word_cuts f) ws)

-- numbers put into an ascending list, the last of them first
unfoldable pub added : List ℕ → List ℕ → List ℕ
added [] l = l
added (x ∷ xs) l = insert x (added xs l)
