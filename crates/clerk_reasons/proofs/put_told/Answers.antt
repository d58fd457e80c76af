-- The parent, or the rule.
use borrow.Author.Rules.{rules}
use Rattle.clerk_reasons.proofs.Laws.{telling}
use Rattle.clerk_reasons.proofs.put_told.Goals as goal

pub name_over-requires : goal.name_over-requires
name_over-requires c = search (rules, telling)

pub put_parent-requires : goal.put_parent-requires
put_parent-requires c = search (rules, telling)

pub returns-then-reason-eq2 : goal.returns-then-reason-eq2
returns-then-reason-eq2 c = search (rules, telling)

pub put_rule-requires : goal.put_rule-requires
put_rule-requires c = search (rules, telling)

pub returns : goal.returns
returns c = search (rules, telling)
