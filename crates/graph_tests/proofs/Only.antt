-- No second answer fits: the contracts that the public functions declare determine what they answer.
use Rattle.theory.specs.Determined.{Determines, Settles, only}
use Rattle.graph_tests.proofs.no_test.Reads as NoTest
use Rattle.graph_tests.proofs.no_tests.Reads as NoTests
use Rattle.graph_tests.proofs.Tests.listed.Reads as Listed
use Rattle.graph_tests.proofs.tests_of.Reads as TestsOf

pub no_test_only : Determines NoTest.Learnt
no_test_only κs a r q s t = only

pub no_tests_only : Determines NoTests.Learnt
no_tests_only κs a r q s t = only

pub listed_only : Settles Listed.Learnt (λ κs r s. r.now)
listed_only κs a r q s t = only

pub tests_of_only : Determines TestsOf.Learnt
tests_of_only κs a r q s t = only
