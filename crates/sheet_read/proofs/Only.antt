-- No second answer fits: the contract of the public function determines what it answers, and the lent words.
use Rattle.theory.specs.Determined.{Determines, Settles, only}
use Rattle.sheet_read.proofs.read_sheet.Reads as ReadSheet

pub read_sheet_only : Determines ReadSheet.Learnt
read_sheet_only κs a r q s t h g = only h.0 g.0

-- the lent words are the second parameter
pub read_sheet_words_only : Settles ReadSheet.Learnt (λ κs r s. s.1.0.now)
read_sheet_words_only κs a r q s t h g = only h.1 g.1
