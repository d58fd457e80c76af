-- No second answer fits: the contract of the public function determines what it answers, and the lent words.
use Rattle.theory.specs.Determined.{Determines, Settles, only}
use Rattle.cond_read.proofs.read_condition.Reads as ReadCondition

pub read_condition_only : Determines ReadCondition.Learnt
read_condition_only κs a r q s t h g = only h.0 g.0

-- the lent words are the fourth parameter
pub condition_words_only : Settles ReadCondition.Learnt (λ κs r s. s.1.1.1.0.now)
condition_words_only κs a r q s t h g = only h.1 g.1
