-- No second answer fits: the contract of the public function determines what it answers.
use Rattle.theory.specs.Determined.{Determines, only}
use Rattle.outlook_combos.proofs.combo.Reads as Combo

pub combo_only : Determines Combo.Learnt
combo_only κs a r q s t = only
