-- `cond_item::closed` meets its contract: what is due behind the condition took one byte.
use borrow.Author.Rules.{rules}
use Rattle.cond_item.proofs.Steps.{closes}
use Rattle.cond_item.proofs.closed.Goals as goal

pub returns : goal.returns
returns g c = let q = c.in_ok-q.was in let h = c.in_ok-close.was in search (rules, closes)
