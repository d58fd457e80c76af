-- Choice after choice, from the last: the front holds the patterns of those from x on.
use Rattle.outlook_combos.specs.Numbered.{split}
use Rattle.outlook_case.specs.Patterns.{fixed}
use Rattle.outlook_case.proofs.Laws.{Collecting}
use Rattle.outlook_case.proofs.collect.Given as goal

abbrev pub invariant-loop-x : goal.invariant-loop-x
invariant-loop-x l = Collecting (fixed l.plan l.words l.moment) (split l.lens l.flat) l.count l.initial.patterns l.patterns l.n l.x
