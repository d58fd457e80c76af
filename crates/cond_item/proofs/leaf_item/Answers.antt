-- `cond_item::leaf_item` meets its contract: there is room at `top`, since fewer than the most leaves stand before.
use borrow.Author.Rules.{rules}
use Rattle.cond_item.proofs.Steps.{storing}
use Rattle.cond_item.proofs.leaf_item.Goals as goal

pub bounds-words-top : goal.bounds-words-top
bounds-words-top c = let h = c.in_ok-leaf.was in search (rules, storing)
