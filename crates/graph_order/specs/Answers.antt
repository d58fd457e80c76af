-- What the code answers for the order that the meaning takes.
use Rattle.std.specs.Prelude as Code
use Rattle.std.specs.Prelude.{ℕ, ◌-◌, Some, None, List, ◌++◌, length, replicate}
use Rattle.std.proofs.Math.Option.{Option, none, some}
use Rattle.limits.specs.Sizes.{node_room}

-- the order at the start of its array, or none
abbrev pub as_sorting : Option (List ℕ) → Code.Option (List ℕ)
as_sorting none = None
as_sorting (some o) = Some (o ++ replicate (node_room - length o) 0)

-- the first free node, or none
abbrev pub as_free : Option ℕ → Code.Option ℕ
as_free none = None
as_free (some k) = Some k
