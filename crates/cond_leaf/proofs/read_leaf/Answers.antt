-- `cond_leaf::read_leaf` meets its contract: the name decides, and comparing packed names finds what comparing names finds.
use borrow.Author.Rules.{rules}
use Rattle.cond_leaf.proofs.Leaves.{leaf_known, leafing}
use Rattle.cond_leaf.proofs.read_leaf.Goals as goal

pub returns-in_err-w : goal.returns-in_err-w
returns-in_err-w c = search (rules, leafing)

pub returns : goal.returns
returns c = leaf_known _ _ _ _ _ _ c.name_piece.ensures _ c.in_ok-w.was _ c.known_leaf.ensures
