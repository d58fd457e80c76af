-- No second answer fits: the contract of each public function determines what it answers.
use denote.RattleType.{RattleType}
use denote.Param.Laws.{Laws}
use Rattle.theory.specs.Determined.{Determines, Settles, only}
use Rattle.places.proofs.of_byte.Reads as OfByte
use Rattle.places.proofs.of_pair.Reads as OfPair
use Rattle.places.proofs.lower.Reads as Lower
use Rattle.places.proofs.between.Reads as Between

pub of_byte_only : Determines OfByte.Learnt
of_byte_only κs a r q s t h g = only h.0 g.0

pub of_pair_only : Determines OfPair.Learnt
of_pair_only κs a r q s t h g = only h.0 g.0

pub lower_only : Determines Lower.Learnt
lower_only κs a r q s t = only

-- at every type of items; what is returned is lent
pub between_only : (t : RattleType) (l : Laws t) → Settles (Between.Learnt t l) (λ κs r s. r.now)
between_only t l κs a r q s z = only
