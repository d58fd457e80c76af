-- No second answer fits: the contract of the public function determines what it answers.
use Rattle.theory.specs.Determined.{Determines, only}
use Rattle.case_tables.proofs.place.Reads as Place

pub place_only : Determines Place.Learnt
place_only κs a r q s t = only
