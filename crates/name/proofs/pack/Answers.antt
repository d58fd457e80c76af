use borrow.Author.Rules.{rules}
use Rattle.name.proofs.Packs.{packing}
use Rattle.name.proofs.pack.Goals as goal

pub loop-i-init : goal.loop-i-init
loop-i-init c = search (rules, packing)

pub bounds-s-i : goal.bounds-s-i
bounds-s-i c = search (rules, packing)

pub symbol_of-requires : goal.symbol_of-requires
symbol_of-requires c = search (rules, packing)

pub overflow_mul-w : goal.overflow_mul-w
overflow_mul-w c = search (rules, packing)

pub overflow_add-w : goal.overflow_add-w
overflow_add-w c = search (rules, packing)

pub loop-i-preserved : goal.loop-i-preserved
loop-i-preserved c = search (rules, packing)

pub returns : goal.returns
returns c = search (rules, packing)
