-- No second answer fits: each public function's contract determines what it answers.
use Rattle.theory.specs.Determined.{Determines, only}
use Rattle.sheet_fields.proofs.read_model.Reads as ReadModel
use Rattle.sheet_fields.proofs.read_fields.Reads as ReadFields

pub read_model_only : Determines ReadModel.Learnt
read_model_only κs a r q s t = only

-- whatever a refusal is told by
pub read_fields_only : (W : _) (L : _) (G : _) (D : _) → Determines (ReadFields.Learnt W L G D)
read_fields_only W L G D κs a r q s t = only
