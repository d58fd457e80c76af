-- No second answer fits: the contract of the public function determines what it answers.
use Rattle.theory.specs.Determined.{Determines, only}
use Rattle.event_read.proofs.read_event.Reads as ReadEvent

pub read_event_only : Determines ReadEvent.Learnt
read_event_only κs a r q s t = only
