-- No second answer fits: the contract of the public function determines what it answers, and the lent space.
use Rattle.theory.specs.Determined.{Determines, Settles}
use Rattle.sets.proofs.Only.{front_count_only, front_space_only}
use Rattle.outlook_cuts.proofs.field_cuts.Reads as FieldCuts

pub field_cuts_count_only : Determines FieldCuts.Learnt
field_cuts_count_only κs a r q s t h g = front_count_only h g

-- the lent space is the fourth parameter
pub field_cuts_space_only : Settles FieldCuts.Learnt (λ κs r s. s.1.1.1.0.now)
field_cuts_space_only κs a r q s t h g = front_space_only h g
