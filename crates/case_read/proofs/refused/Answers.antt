-- A refusal is made of blank parts.
use borrow.Author.Rules.{rules}
use Rattle.case_read.proofs.Laws.{refused_is}
use Rattle.case_read.proofs.refused.Goals as goal

pub returns : goal.returns
returns c = search (rules, refused_is)
