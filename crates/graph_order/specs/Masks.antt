-- A set of nodes as a number, whose bits tell its nodes, and a graph as a list of them.
use Rattle.std.specs.Prelude.{ℕ, ◌^◌, Bool, cond, List, eqb, ltb, get_or}
use Rattle.std.specs.Int.{bit_at}
use Rattle.std.specs.Int.Bits.{bit_or}
use Rattle.meaning.specs.Text.{any, keep, is_in, from}
use Rattle.meaning.specs.Graph.{Into}

-- how many nodes a mask has room for: the bits of a number of the code
abbrev pub width : ℕ
width = 64

-- the mask has the node k
unfoldable pub has : ℕ → ℕ → Bool
has m k = eqb (bit_at m k) 1

-- the nodes of a mask, ascending
unfoldable pub members : ℕ → List ℕ
members m = keep (has m) (from 0 width)

-- the graph of masks: those from which an edge leads to k are the members of mask k
unfoldable pub mask_into : List ℕ → Into
mask_into masks k = members (get_or masks k 0)

-- a node is in both masks
unfoldable pub meet : ℕ → ℕ → Bool
meet a b = any (λ p. is_in p (members b)) (members a)

-- the mask with the node k too, where there is room for it
unfoldable pub with_bit : ℕ → ℕ → ℕ
with_bit m k = cond (ltb k width) (bit_or m (2 ^ k)) m
