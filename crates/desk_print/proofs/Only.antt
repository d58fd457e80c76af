-- No second answer fits the contracts, and no other content of the lent space.
use Rattle.theory.specs.Determined.{Determines, Settles, only}
use Rattle.desk_print.proofs.put_refusal.Reads as PutRefusal
use Rattle.desk_print.proofs.put_start.Reads as PutStart
use Rattle.desk_print.proofs.put_pattern.Reads as PutPattern
use Rattle.desk_print.proofs.put_many.Reads as PutMany

pub put_refusal_only : Determines PutRefusal.Learnt
put_refusal_only κs a r q s t h g = only h.next g.next

-- the lent space is the first parameter
pub put_refusal_space_only : Settles PutRefusal.Learnt (λ κs r s. s.0.now)
put_refusal_space_only κs a r q s t h g = only h.space g.space

pub put_start_only : Determines PutStart.Learnt
put_start_only κs a r q s t h g = only h.next g.next

pub put_start_space_only : Settles PutStart.Learnt (λ κs r s. s.0.now)
put_start_space_only κs a r q s t h g = only h.space g.space

pub put_pattern_only : Determines PutPattern.Learnt
put_pattern_only κs a r q s t h g = only h.next g.next

pub put_pattern_space_only : Settles PutPattern.Learnt (λ κs r s. s.0.now)
put_pattern_space_only κs a r q s t h g = only h.space g.space

pub put_many_only : Determines PutMany.Learnt
put_many_only κs a r q s t h g = only h.next g.next

pub put_many_space_only : Settles PutMany.Learnt (λ κs r s. s.0.now)
put_many_space_only κs a r q s t h g = only h.space g.space
