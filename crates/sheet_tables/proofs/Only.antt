-- No second answer fits: each public function's contract determines what it answers.
use Rattle.theory.specs.Determined.{Determines, only}
use Rattle.sheet_tables.proofs.no_heads.Reads as NoHeads
use Rattle.sheet_tables.proofs.no_rules.Reads as NoRules

pub no_heads_only : Determines NoHeads.Learnt
no_heads_only κs a r q s t = only

pub no_rules_only : Determines NoRules.Learnt
no_rules_only κs a r q s t = only
