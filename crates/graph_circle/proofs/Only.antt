-- No second answer fits: the contract that the public function declares determines what it answers.
use Rattle.theory.specs.Determined.{Determines, only}
use Rattle.graph_circle.proofs.find.Reads as Find

pub find_only : Determines Find.Learnt
find_only κs a r q s t = only
