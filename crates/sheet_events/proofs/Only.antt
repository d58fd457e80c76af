-- No second answer fits: the contract of the public function determines what it answers.
use Rattle.theory.specs.Determined.{Determines, only}
use Rattle.sheet_events.proofs.read_events.Reads as ReadEvents

-- whatever a refusal is told by
pub read_events_only : (W : _) (L : _) (G : _) (D : _) → Determines (ReadEvents.Learnt W L G D)
read_events_only W L G D κs a r q s t = only
