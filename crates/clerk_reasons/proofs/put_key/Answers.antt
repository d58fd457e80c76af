-- The key with the sign of the change.
use borrow.Author.Rules.{rules}
use Rattle.clerk_reasons.proofs.Laws.{keys}
use Rattle.clerk_reasons.proofs.put_key.Goals as goal

pub put_text-requires : goal.put_text-requires
put_text-requires c = search (rules, keys)

pub returns-then-mark-eq-YES : goal.returns-then-mark-eq-YES
returns-then-mark-eq-YES c = search (rules, keys)

pub put_text-requires-2 : goal.put_text-requires-2
put_text-requires-2 c = search (rules, keys)

pub returns : goal.returns
returns c = search (rules, keys)
