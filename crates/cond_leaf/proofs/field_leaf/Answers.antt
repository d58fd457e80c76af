-- `cond_leaf::field_leaf` meets its contract: behind its name there is what `comparison` reads.
use borrow.Author.Rules.{rules}
use Rattle.cond_leaf.proofs.Leaves.{fielding}
use Rattle.cond_leaf.proofs.field_leaf.Goals as goal

pub returns : goal.returns
returns c = search (rules, fielding)
