-- Where the lines of a text start.
use Rattle.std.specs.Prelude.{ℕ, zero, suc, ◌+◌, List, [], ◌∷◌, drop}
use Rattle.meaning.specs.Desk.{line_length}

-- of n lines, the first of which starts at a place
unfoldable pub starts_from : ℕ → ℕ → List ℕ → List ℕ
starts_from zero at s = []
starts_from (suc n) at s = at ∷ starts_from n (at + line_length (drop at s)) s

-- by their numbers: the lines 1 to n behind place 0, where there is no line
abbrev pub line_starts : ℕ → List ℕ → List ℕ
line_starts n s = 0 ∷ starts_from n 0 s
