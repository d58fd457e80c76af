-- No second answer fits: each public function's contract determines what it answers.
use Rattle.theory.specs.Determined.{Determines, only}
use Rattle.graph_order.proofs.with_bit.Reads as WithBit
use Rattle.graph_order.proofs.full.Reads as Full
use Rattle.graph_order.proofs.has.Reads as Has
use Rattle.graph_order.proofs.first_free.Reads as FirstFree
use Rattle.graph_order.proofs.sort.Reads as Sort

pub with_bit_only : Determines WithBit.Learnt
with_bit_only κs a r q s t h g = only h.1 g.1

pub full_only : Determines Full.Learnt
full_only κs a r q s t = only

pub has_only : Determines Has.Learnt
has_only κs a r q s t = only

pub first_free_only : Determines FirstFree.Learnt
first_free_only κs a r q s t = only

pub sort_only : Determines Sort.Learnt
sort_only κs a r q s t = only
