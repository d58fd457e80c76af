-- No second answer fits: each public function's contract determines what it answers.
use Rattle.theory.specs.Determined.{Determines, only}
use Rattle.number.proofs.number_piece.Reads as NumberPiece
use Rattle.number.proofs.entry_piece.Reads as EntryPiece
use Rattle.number.proofs.closing.Reads as Closing
use Rattle.number.proofs.end_line.Reads as EndLine

pub number_piece_only : Determines NumberPiece.Learnt
number_piece_only κs a r q s t = only

pub entry_piece_only : Determines EntryPiece.Learnt
entry_piece_only κs a r q s t = only

pub closing_only : Determines Closing.Learnt
closing_only κs a r q s t = only

pub end_line_only : Determines EndLine.Learnt
end_line_only κs a r q s t = only
