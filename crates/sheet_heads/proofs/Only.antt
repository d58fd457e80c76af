-- No second answer fits: the contract of the public function determines what it answers.
use Rattle.theory.specs.Determined.{Determines, only}
use Rattle.sheet_heads.proofs.read_heads.Reads as ReadHeads

pub read_heads_only : Determines ReadHeads.Learnt
read_heads_only κs a r q s t = only
