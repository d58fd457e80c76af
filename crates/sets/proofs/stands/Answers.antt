-- `sets::stands` tells whether the number stands at a place before n.
use borrow.Author.Rules.{rules}
use Rattle.sets.proofs.Laws.{standing}
use Rattle.sets.proofs.stands.Goals as goal

pub returns-then-n-pos : goal.returns-then-n-pos
returns-then-n-pos c = search (rules, standing)

pub bounds-a-pos : goal.bounds-a-pos
bounds-a-pos c = search (rules, standing)

pub returns : goal.returns
returns c = search (rules, standing)
