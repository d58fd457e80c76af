-- No second answer fits the contracts of the doors, and no other content of the lent space.
use Rattle.theory.specs.Determined.{Determines, Settles, only}
use Rattle.reambodkin.proofs.step.Reads as Step
use Rattle.reambodkin.proofs.outlook.Reads as Outlook
use Rattle.reambodkin.proofs.why.Reads as Why

pub step_answer_only : Determines Step.Learnt
step_answer_only κs a r q s t h g = only h.0 g.0

-- the lent space is the fourth parameter
pub step_space_only : Settles Step.Learnt (λ κs r s. s.1.1.1.0.now)
step_space_only κs a r q s t h g = only h.1 g.1

pub outlook_answer_only : Determines Outlook.Learnt
outlook_answer_only κs a r q s t h g = only h.0 g.0

pub outlook_space_only : Settles Outlook.Learnt (λ κs r s. s.1.1.1.0.now)
outlook_space_only κs a r q s t h g = only h.1 g.1

pub why_answer_only : Determines Why.Learnt
why_answer_only κs a r q s t h g = only h.0 g.0

pub why_space_only : Settles Why.Learnt (λ κs r s. s.1.1.1.0.now)
why_space_only κs a r q s t h g = only h.1 g.1
