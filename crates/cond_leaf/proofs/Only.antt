-- No second answer fits: each public function's contract determines what it answers.
use Rattle.theory.specs.Determined.{Determines, only}
use Rattle.cond_leaf.proofs.bit_of.Reads as BitOf
use Rattle.cond_leaf.proofs.read_leaf.Reads as ReadLeaf

pub bit_of_only : Determines BitOf.Learnt
bit_of_only κs a r q s t h g = only h.0 g.0

pub read_leaf_only : Determines ReadLeaf.Learnt
read_leaf_only κs a r q s t = only
