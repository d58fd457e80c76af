-- No second answer fits: the contracts that the public functions declare determine what they answer.
use Rattle.theory.specs.Determined.{Determines, only}
use Rattle.step_test.proofs.rose.Reads as Rose
use Rattle.step_test.proofs.fell.Reads as Fell
use Rattle.step_test.proofs.trigger_met.Reads as TriggerMet
use Rattle.step_test.proofs.home_met.Reads as HomeMet
use Rattle.step_test.proofs.condition_value.Reads as ConditionValue
use Rattle.step_test.proofs.condition_met.Reads as ConditionMet
use Rattle.step_test.proofs.test_met.Reads as TestMet
use Rattle.step_test.proofs.stopped.Reads as Stopped

pub rose_only : Determines Rose.Learnt
rose_only κs a r q s t = only

pub fell_only : Determines Fell.Learnt
fell_only κs a r q s t = only

pub trigger_met_only : Determines TriggerMet.Learnt
trigger_met_only κs a r q s t = only

pub home_met_only : Determines HomeMet.Learnt
home_met_only κs a r q s t = only

pub condition_value_only : Determines ConditionValue.Learnt
condition_value_only κs a r q s t = only

pub condition_met_only : Determines ConditionMet.Learnt
condition_met_only κs a r q s t = only

pub test_met_only : Determines TestMet.Learnt
test_met_only κs a r q s t = only

pub stopped_only : Determines Stopped.Learnt
stopped_only κs a r q s t = only
