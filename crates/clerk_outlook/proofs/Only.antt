-- No second answer fits the contract, and no other content of the lent space.
use Rattle.theory.specs.Determined.{Determines, Settles}
use Rattle.sets.proofs.Only.{front_count_only, front_space_only}
use Rattle.clerk_outlook.proofs.outlook_output.Reads as OutlookOutput

pub outlook_output_only : Determines OutlookOutput.Learnt
outlook_output_only κs a r q s t h g = front_count_only h g

-- the lent space is the second parameter
pub outlook_output_space_only : Settles OutlookOutput.Learnt (λ κs r s. s.1.0.now)
outlook_output_space_only κs a r q s t h g = front_space_only h g
