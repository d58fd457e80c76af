-- The step: a refusal of the papers, or the step of the case that was read.
use borrow.Author.Rules.{rules}
use Rattle.case_read.proofs.Callers.{taking}
use Rattle.reambodkin.proofs.Laws.{stepping}
use Rattle.reambodkin.proofs.step.Goals as goal

pub read_case-case-requires : goal.read_case-case-requires
read_case-case-requires c = search (rules, taking, stepping)

pub refusal-requires : goal.refusal-requires
refusal-requires c = search (rules, taking, stepping)

pub returns-then-case-ne0 : goal.returns-then-case-ne0
returns-then-case-ne0 c = search (rules, taking, stepping)

pub step_case-requires : goal.step_case-requires
step_case-requires c = search (rules, taking, stepping)

pub shape_of-out : goal.shape_of-out
shape_of-out c = search (rules, taking, stepping)

pub returns : goal.returns
returns c = search (rules, taking, stepping)
