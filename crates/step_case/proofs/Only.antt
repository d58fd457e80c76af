-- No second answer fits: the contract of the public function determines what it answers, and the lent space.
use Rattle.theory.specs.Determined.{Determines, Settles, only}
use Rattle.step_case.proofs.step_case.Reads as StepCase

pub step_case_only : Determines StepCase.Learnt
step_case_only κs a r q s t h g = only h.0 g.0

-- the lent space is the sixth parameter
pub step_case_space_only : Settles StepCase.Learnt (λ κs r s. s.1.1.1.1.1.0.now)
step_case_space_only κs a r q s t h g = only h.1 g.1
