-- No second answer fits the contract that the function declares.
use Rattle.theory.specs.Determined.{Determines, only}
use Rattle.reply.proofs.refusal.Reads as Refusal
use Rattle.reply.proofs.number.Reads as Number

pub refusal_only : Determines Refusal.Learnt
refusal_only κs a r q s t = only

pub number_only : Determines Number.Learnt
number_only κs a r q s t = only
