-- No second answer fits: the contract of the public function determines what it answers, and the lent space.
use Rattle.theory.specs.Determined.{Determines, Settles, only}
use Rattle.outlook_parts.proofs.fill.Reads as Fill

pub fill_only : Determines Fill.Learnt
fill_only κs a r q s t h g = only h.product g.product

-- the values to be tried are the fifth parameter
pub fill_flat_only : Settles Fill.Learnt (λ κs r s. s.1.1.1.1.0.now)
fill_flat_only κs a r q s t h g = only h.lists g.lists

-- their numbers are the sixth parameter
pub fill_lens_only : Settles Fill.Learnt (λ κs r s. s.1.1.1.1.1.0.now)
fill_lens_only κs a r q s t h g = only h.lengths g.lengths
