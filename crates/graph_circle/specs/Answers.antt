-- What the code answers for the circle that the meaning tells.
use Rattle.std.specs.Prelude.{ℕ, ◌-◌, List, ◌++◌, length, replicate}
use Rattle.limits.specs.Sizes.{node_room}
use Rattle.graph_circle.specs.declared.Circle.{Circle}

-- the nodes of the circle at the start of their array
abbrev pub as_circle : List ℕ → Circle
as_circle c = record { len = length c; nodes = c ++ replicate (node_room - length c) 0 }
