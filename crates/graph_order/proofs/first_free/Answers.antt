-- `graph_order::first_free` answers the first free node: the first of the numbers below n that is free.
use Rattle.std.proofs.Common.{◌≡◌, true, false, rules}
use borrow.Author.Tests.{tests}
use Rattle.std.proofs.lemmas.Iterator.{first_from_Range}
use Rattle.graph_order.proofs.Laws.{free_at, first_is}
use Rattle.graph_order.proofs.first_free.Goals as goal

pub returns : goal.returns
returns c =
    let given = c.args in
    let found = c.find in
    let free = free_at given.masks.now given.left in
    first_is _ _ _ _ c.requires.0 c.requires.1
    (first_from_Range _ _ _ _ (λ k. free k ≡ true) (λ k. free k ≡ false) found.ensures.ran (λ x q k. search (rules, tests)) (λ x q k. search (rules, tests)))
