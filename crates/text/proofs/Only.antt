-- No second answer fits: each public function's contract determines what it answers.
use Rattle.theory.specs.Determined.{Determines, Settles, only}
use Rattle.text.proofs.starts.Reads as Starts
use Rattle.text.proofs.rest.Reads as Rest
use Rattle.text.proofs.due_or.Reads as DueOr
use Rattle.text.proofs.due_text.Reads as DueText

pub starts_only : Determines Starts.Learnt
starts_only κs a r q s t = only

-- what the part of the slice holds
pub rest_only : Settles Rest.Learnt (λ κs r s. r.now)
rest_only κs a r q s t = only

-- at every type
pub due_text_only : (T : _) (L : _) (C : _) (F : _) (E : _) (G : _) (D : _) → Determines (DueText.Learnt T L C F E G D)
due_text_only T L C F E G D κs a r q s t = only

pub due_or_only : (T : _) (L : _) (C : _) (G : _) (D : _) → Determines (DueOr.Learnt T L C G D)
due_or_only T L C G D κs a r q s t = only
