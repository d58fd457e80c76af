-- No second answer fits: the contracts of the public functions determine what they answer, and the lent space.
use Rattle.theory.specs.Determined.{Determines, Settles, only}
use Rattle.desk_split.proofs.line_len.Reads as LineLen
use Rattle.desk_split.proofs.paper_len.Reads as PaperLen
use Rattle.desk_split.proofs.line_starts.Reads as LineStarts

pub line_len_only : Determines LineLen.Learnt
line_len_only κs a r q s t = only

pub paper_len_only : Determines PaperLen.Learnt
paper_len_only κs a r q s t = only

-- the lent space is the second parameter
pub line_starts_only : Settles LineStarts.Learnt (λ κs r s. s.1.0.now)
line_starts_only κs a r q s t = only
