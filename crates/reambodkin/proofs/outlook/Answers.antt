-- The outlook: a refusal of the papers, or the outlook of the case that was read.
use borrow.Author.Rules.{rules}
use Rattle.case_read.proofs.Callers.{taking}
use Rattle.reambodkin.proofs.Laws.{listing}
use Rattle.reambodkin.proofs.outlook.Goals as goal

pub read_case-case-requires : goal.read_case-case-requires
read_case-case-requires c = search (rules, taking, listing)

pub refusal-requires : goal.refusal-requires
refusal-requires c = search (rules, taking, listing)

pub returns-then-case-ne0 : goal.returns-then-case-ne0
returns-then-case-ne0 c = search (rules, taking, listing)

pub moment_of-moment-requires : goal.moment_of-moment-requires
moment_of-moment-requires c = search (rules, taking, listing)

pub outlook_case-requires : goal.outlook_case-requires
outlook_case-requires c = search (rules, taking, listing)

pub shape_of-out : goal.shape_of-out
shape_of-out c = search (rules, taking, listing)

pub returns : goal.returns
returns c = search (rules, taking, listing)
