-- No second answer fits: the contract of each public function determines what it answers, and the lent space.
use Rattle.theory.specs.Determined.{Determines, Settles, only}
use Rattle.outlook_case.proofs.list_case.Reads as ListCase
use Rattle.outlook_case.proofs.outlook_case.Reads as OutlookCase

pub list_case_only : Determines ListCase.Learnt
list_case_only κs a r q s t h g = only h.0 g.0

-- the array and the lent space are the third parameter
pub list_case_space_only : Settles ListCase.Learnt (λ κs r s. s.1.1.0.now)
list_case_space_only κs a r q s t h g = only h.1 g.1

pub outlook_case_only : Determines OutlookCase.Learnt
outlook_case_only κs a r q s t h g = only h.0 g.0

pub outlook_case_space_only : Settles OutlookCase.Learnt (λ κs r s. s.1.1.0.now)
outlook_case_space_only κs a r q s t h g = only h.1 g.1
