-- `rule_tests` answers the tests of the rules. The invariant: those that are left, put down from here on, give what all of them give from the start.
use Rattle.graph_tests.proofs.Laws.{Ruling}
use Rattle.graph_tests.proofs.rule_tests.Given as goal

abbrev pub invariant-loop-i : goal.invariant-loop-i
invariant-loop-i l = Ruling l.under l.line l.rules l.count l.rows l.i
