-- No second answer fits: the contracts that the public functions declare determine what they answer.
use Rattle.theory.specs.Determined.{Determines, only}
use Rattle.step_plan.proofs.plan_tests.Reads as PlanTests

pub plan_tests_only : Determines PlanTests.Learnt
plan_tests_only κs a r q s t = only
