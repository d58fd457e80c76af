-- A name in one number: its symbols, the first one lowest, and what any number stands for. Nothing outside this crate looks at it.
use Rattle.std.specs.Prelude.{ℕ, zero, suc, ◌+◌, ◌-◌, ◌*◌, ◌/◌, ◌%◌, true, false, cond, ◌&&◌, [], ◌∷◌, leb, eqb}
use Rattle.meaning.specs.Limits.{name_bytes}
use Rattle.meaning.specs.Name.{Name}

-- how many symbols there are, with one for none
abbrev pub base : ℕ
base = 38

-- the letters a to z are 1 to 26, the digits 0 to 9 are 27 to 36
unfoldable pub symbol : ℕ → ℕ
symbol x = cond (leb 97 x) (x - 96) (x - 21)

-- the byte of a symbol; 0, which is in no name, for a number that is none
unfoldable pub byte_of : ℕ → ℕ
byte_of d = cond (leb 1 d && leb d 26) (d + 96) (cond (leb 27 d && leb d 36) (d + 21) 0)

-- a name packed
unfoldable pub packed : Name → ℕ
packed [] = 0
packed (x ∷ w) = symbol x + base * packed w

-- the symbols of a number, at most k of them
unfoldable pub named_in : ℕ → ℕ → Name
named_in zero v = []
named_in (suc k) v = elim (eqb v 0) [ true ↦ [] | false ↦ byte_of (v % base) ∷ named_in k (v / base) ]

-- the name that a number stands for. One symbol more than a name may have, so that a larger number stands for no good name
unfoldable pub named : ℕ → Name
named v = named_in (suc name_bytes) v
