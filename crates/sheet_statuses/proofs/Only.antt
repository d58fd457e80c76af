-- No second answer fits: each public function's contract determines what it answers.
use Rattle.theory.specs.Determined.{Determines, only}
use Rattle.sheet_statuses.proofs.read_stages.Reads as ReadStages
use Rattle.sheet_statuses.proofs.read_miles.Reads as ReadMiles

-- whatever a refusal is told by
module _ (W : _) (L : _) (G : _) (D : _) where
  pub read_stages_only : Determines (ReadStages.Learnt W L G D)
  read_stages_only κs a r q s t = only

  pub read_miles_only : Determines (ReadMiles.Learnt W L G D)
  read_miles_only κs a r q s t = only
