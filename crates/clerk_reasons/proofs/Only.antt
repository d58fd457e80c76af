-- No second answer fits the contracts, and no other content of the lent space.
use Rattle.theory.specs.Determined.{Determines, Settles, only}
use Rattle.clerk_reasons.proofs.name_of.Reads as NameOf
use Rattle.clerk_reasons.proofs.put_reasons.Reads as PutReasons

pub name_of_only : Determines NameOf.Learnt
name_of_only κs a r q s t = only

pub put_reasons_only : Determines PutReasons.Learnt
put_reasons_only κs a r q s t h g = only h.next g.next

-- the lent space is the first parameter
pub put_reasons_space_only : Settles PutReasons.Learnt (λ κs r s. s.0.now)
put_reasons_space_only κs a r q s t h g = only h.space g.space
