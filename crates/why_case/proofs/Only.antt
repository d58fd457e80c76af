-- No second answer fits: the contract of the public function determines what it answers, and the lent space.
use Rattle.theory.specs.Determined.{Determines, Settles, only}
use Rattle.why_case.proofs.why_case.Reads as WhyCase

pub why_case_only : Determines WhyCase.Learnt
why_case_only κs a r q s t h g = only h.0 g.0

-- the lent space is the third parameter
pub why_case_space_only : Settles WhyCase.Learnt (λ κs r s. s.1.1.0.now)
why_case_space_only κs a r q s t h g = only h.1 g.1
