-- No second answer fits: each public function's contract determines what it answers.
use Rattle.theory.specs.Determined.{Determines, only}
use Rattle.card_lines.proofs.bytes_fault.Reads as BytesFault
use Rattle.card_lines.proofs.on_line.Reads as OnLine
use Rattle.card_lines.proofs.line_end.Reads as LineEnd
use Rattle.card_lines.proofs.field_line.Reads as FieldLine
use Rattle.card_lines.proofs.mark_line.Reads as MarkLine
use Rattle.card_lines.proofs.put_piece.Reads as PutPiece
use Rattle.card_lines.proofs.case_line.Reads as CaseLine

-- whatever a refusal is told by
pub bytes_fault_only : (R : _) (L : _) (G : _) (D : _) → Determines (BytesFault.Learnt R L G D)
bytes_fault_only R L G D κs a r q s t = only

-- at every type
pub on_line_only : (T : _) (L : _) → Determines (OnLine.Learnt T L)
on_line_only T L κs a r q s t = only

pub line_end_only : Determines LineEnd.Learnt
line_end_only κs a r q s t = only

pub field_line_only : Determines FieldLine.Learnt
field_line_only κs a r q s t = only

pub mark_line_only : Determines MarkLine.Learnt
mark_line_only κs a r q s t = only

pub put_piece_only : Determines PutPiece.Learnt
put_piece_only κs a r q s t = only

pub case_line_only : Determines CaseLine.Learnt
case_line_only κs a r q s t = only
