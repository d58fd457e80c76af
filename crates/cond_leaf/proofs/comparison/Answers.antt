-- `cond_leaf::comparison` meets its contract: behind the sign, a wrong number decides, and one that was read is small enough.
use borrow.Author.Rules.{rules}
use Rattle.std.proofs.lemmas.Result.{err_from_is_err_and}
use Rattle.cond_leaf.proofs.Leaves.{comparing}
use Rattle.cond_leaf.proofs.comparison.Goals as goal

pub returns-in_err-number : goal.returns-in_err-number
returns-in_err-number c =
    let e = c.from_residual-in_err-number.ensures in
    let p = err_from_is_err_and c.from_residual-in_err-number.result e.1 in
    let h = c.in_err-number.was in
    let g = c.in_ok-sign.was in
    rw (p.1, p.2) (search (rules, comparing))

pub comparison_word-requires : goal.comparison_word-requires
comparison_word-requires c = search (rules, comparing)
