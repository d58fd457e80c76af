-- No second answer fits the contract, and no other content of the lent space.
use Rattle.theory.specs.Determined.{Determines, Settles, only}
use Rattle.clerk_rounds.proofs.put_sheet.Reads as PutSheet

pub put_sheet_only : Determines PutSheet.Learnt
put_sheet_only κs a r q s t h g = only h.next g.next

-- the lent space is the first parameter
pub put_sheet_space_only : Settles PutSheet.Learnt (λ κs r s. s.0.now)
put_sheet_space_only κs a r q s t h g = only h.space g.space
