-- A refused sheet is made of blank parts.
use borrow.Author.Rules.{rules}
use Rattle.step_sheet.proofs.Laws.{refused_is}
use Rattle.step_sheet.proofs.refused.Goals as goal

pub no_heads-requires : goal.no_heads-requires
no_heads-requires c = search (rules, refused_is)

pub no_tests-requires : goal.no_tests-requires
no_tests-requires c = search (rules, refused_is)

pub plan_tests-requires : goal.plan_tests-requires
plan_tests-requires c = search (rules, refused_is)

pub returns : goal.returns
returns c = search (rules, refused_is)
