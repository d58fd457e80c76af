-- What a function adds to a graph of masks.
use Rattle.std.specs.Prelude.{ℕ, ◌<◌, ◌≡◌, cond, ◌||◌, List, [], eqb, length, get_or}
use Rattle.meaning.specs.Text.{is_in}
use Rattle.meaning.specs.Graph.{Into}
use Rattle.limits.specs.Sizes.{node_room}
use Rattle.graph_order.specs.Masks.{has}

-- the edges from these nodes to one node
unfoldable pub toward : ℕ → List ℕ → Into
toward k ps j = cond (eqb k j) ps []

-- the masks after have the edges of those before and these too, between nodes that there is room for
pub record Added (into : Into) (was is : List ℕ) : Type 0 where
  pub long : length is ≡ node_room
  pub edges : (p k : ℕ) → p < node_room → k < node_room → has (get_or is k 0) p ≡ has (get_or was k 0) p || is_in p (into k)
