-- No second answer fits the contract, and no other content of the lent space.
use Rattle.theory.specs.Determined.{Determines, Settles, only}
use Rattle.clerk_prospects.proofs.put_prospects.Reads as PutProspects

pub put_prospects_only : Determines PutProspects.Learnt
put_prospects_only κs a r q s t h g = only h.next g.next

-- the lent space is the first parameter
pub put_prospects_space_only : Settles PutProspects.Learnt (λ κs r s. s.0.now)
put_prospects_space_only κs a r q s t h g = only h.space g.space
