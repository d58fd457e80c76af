-- A number, and the byte behind it.
use borrow.Author.Rules.{rules}
use Rattle.space.proofs.Laws.{numbering}
use Rattle.space.proofs.put_number.Goals as goal

pub returns : goal.returns
returns c = search (rules, numbering)
