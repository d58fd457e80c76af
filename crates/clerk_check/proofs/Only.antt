-- No second answer fits the contracts, and no other content of the lent space.
use Rattle.theory.specs.Determined.{Determines, Settles}
use Rattle.sets.proofs.Only.{front_count_only, front_space_only}
use Rattle.clerk_check.proofs.check_output.Reads as CheckOutput
use Rattle.clerk_check.proofs.blank_output.Reads as BlankOutput

pub check_output_only : Determines CheckOutput.Learnt
check_output_only κs a r q s t h g = front_count_only h g

-- the lent space is the second parameter
pub check_output_space_only : Settles CheckOutput.Learnt (λ κs r s. s.1.0.now)
check_output_space_only κs a r q s t h g = front_space_only h g

pub blank_output_only : Determines BlankOutput.Learnt
blank_output_only κs a r q s t h g = front_count_only h g

pub blank_output_space_only : Settles BlankOutput.Learnt (λ κs r s. s.1.0.now)
blank_output_space_only κs a r q s t h g = front_space_only h g
