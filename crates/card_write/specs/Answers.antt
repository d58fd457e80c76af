-- What the code answers where a text is to be written, and what the lent space then holds.
use Rattle.std.specs.Prelude.{ℕ, cond, Option, Some, None, List, ◌++◌, leb, length, drop}

-- how many bytes were written; none where the text is longer than the space
unfoldable pub as_written : List ℕ → List ℕ → Option ℕ
as_written out w = cond (leb (length w) (length out)) (Some (length w)) None

-- the text at the start and what was behind it; untouched where it does not fit
unfoldable pub space_with : List ℕ → List ℕ → List ℕ
space_with out w = cond (leb (length w) (length out)) (w ++ drop (length w) out) out
