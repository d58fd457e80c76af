-- No second answer fits: the contract of the public function determines what it answers, and the lent words.
use Rattle.theory.specs.Determined.{Determines, Settles, only}
use Rattle.sheet_rule.proofs.read_rule.Reads as ReadRule

pub read_rule_only : Determines ReadRule.Learnt
read_rule_only κs a r q s t h g = only h.0 g.0

-- the lent words are the fifth parameter
pub rule_words_only : Settles ReadRule.Learnt (λ κs r s. s.1.1.1.1.0.now)
rule_words_only κs a r q s t h g = only h.1 g.1
