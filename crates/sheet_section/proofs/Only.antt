-- No second answer fits: each public function's contract determines what it answers.
use Rattle.theory.specs.Determined.{Determines, only}
use Rattle.sheet_section.proofs.refused.Reads as Refused
use Rattle.sheet_section.proofs.as_told.Reads as AsTold
use Rattle.sheet_section.proofs.stands.Reads as Stands
use Rattle.sheet_section.proofs.row_name.Reads as RowName
use Rattle.sheet_section.proofs.left_with.Reads as LeftWith
use Rattle.sheet_section.proofs.answer.Reads as Answer

pub refused_only : Determines Refused.Learnt
refused_only κs a r q s t = only

-- whatever a refusal is told by
pub as_told_only : (W : _) (L : _) (G : _) (D : _) → Determines (AsTold.Learnt W L G D)
as_told_only W L G D κs a r q s t = only

pub stands_only : Determines Stands.Learnt
stands_only κs a r q s t = only

pub row_name_only : Determines RowName.Learnt
row_name_only κs a r q s t = only

pub left_with_only : (R : _) (L : _) (G : _) (D : _) → Determines (LeftWith.Learnt R L G D)
left_with_only R L G D κs a r q s t = only

pub answer_only : Determines Answer.Learnt
answer_only κs a r q s t = only
