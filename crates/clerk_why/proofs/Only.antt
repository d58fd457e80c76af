-- No second answer fits the contract, and no other content of the lent space.
use Rattle.theory.specs.Determined.{Determines, Settles}
use Rattle.sets.proofs.Only.{front_count_only, front_space_only}
use Rattle.clerk_why.proofs.why_output.Reads as WhyOutput

pub why_output_only : Determines WhyOutput.Learnt
why_output_only κs a r q s t h g = front_count_only h g

-- the lent space is the second parameter
pub why_output_space_only : Settles WhyOutput.Learnt (λ κs r s. s.1.0.now)
why_output_space_only κs a r q s t h g = front_space_only h g
