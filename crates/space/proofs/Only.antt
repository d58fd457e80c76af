-- No second answer fits: the contracts determine the length of a text that is measured, and where a text that is put ends, with the lent space.
use Rattle.theory.specs.Determined.{Determines, Settles, only}
use Rattle.space.proofs.count_len.Reads as CountLen
use Rattle.space.proofs.mark_len.Reads as MarkLen
use Rattle.space.proofs.put_byte.Reads as PutByte
use Rattle.space.proofs.put_text.Reads as PutText
use Rattle.space.proofs.put_number.Reads as PutNumber
use Rattle.space.proofs.put_line.Reads as PutLine
use Rattle.space.proofs.line_at.Reads as LineAt
use Rattle.space.proofs.mark_word.Reads as MarkWord
use Rattle.space.proofs.mark_at.Reads as MarkAt
use Rattle.space.proofs.put_case.Reads as PutCase
use Rattle.space.proofs.put_end.Reads as PutEnd

pub count_len_only : Determines CountLen.Learnt
count_len_only κs a r q s t h g = only h.0 g.0

pub mark_len_only : Determines MarkLen.Learnt
mark_len_only κs a r q s t h g = only h.0 g.0

-- what the word is
pub mark_word_only : Settles MarkWord.Learnt (λ κs r s. r.now)
mark_word_only κs a r q s t h g = only h g

pub put_byte_only : Determines PutByte.Learnt
put_byte_only κs a r q s t h g = only h.next g.next

-- the lent space is the first parameter
pub put_byte_space_only : Settles PutByte.Learnt (λ κs r s. s.0.now)
put_byte_space_only κs a r q s t h g = only h.space g.space

pub put_text_only : Determines PutText.Learnt
put_text_only κs a r q s t h g = only h.next g.next

pub put_text_space_only : Settles PutText.Learnt (λ κs r s. s.0.now)
put_text_space_only κs a r q s t h g = only h.space g.space

pub put_number_only : Determines PutNumber.Learnt
put_number_only κs a r q s t h g = only h.next g.next

pub put_number_space_only : Settles PutNumber.Learnt (λ κs r s. s.0.now)
put_number_space_only κs a r q s t h g = only h.space g.space

-- whatever pieces the line has
module _ (K V : _) (k v : _) (of_key : _) (key : _) (of_value : _) (value : _) where
  pub put_line_only : Determines (PutLine.Learnt K V k v of_key key of_value value)
  put_line_only κs a r q s t h g = only h.next g.next

  pub put_line_space_only : Settles (PutLine.Learnt K V k v of_key key of_value value) (λ κs r s. s.0.now)
  put_line_space_only κs a r q s t h g = only h.space g.space

pub line_at_only : Determines LineAt.Learnt
line_at_only κs a r q s t h g = only h.next g.next

pub line_at_space_only : Settles LineAt.Learnt (λ κs r s. s.0.now)
line_at_space_only κs a r q s t h g = only h.space g.space

pub mark_at_only : Determines MarkAt.Learnt
mark_at_only κs a r q s t h g = only h.next g.next

pub mark_at_space_only : Settles MarkAt.Learnt (λ κs r s. s.0.now)
mark_at_space_only κs a r q s t h g = only h.space g.space

pub put_case_only : Determines PutCase.Learnt
put_case_only κs a r q s t h g = only h.next g.next

pub put_case_space_only : Settles PutCase.Learnt (λ κs r s. s.0.now)
put_case_space_only κs a r q s t h g = only h.space g.space

pub put_end_only : Determines PutEnd.Learnt
put_end_only κs a r q s t h g = only h.next g.next

pub put_end_space_only : Settles PutEnd.Learnt (λ κs r s. s.0.now)
put_end_space_only κs a r q s t h g = only h.space g.space
