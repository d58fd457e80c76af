-- What is told of a rule: five pieces, one behind the other.
use borrow.Author.Rules.{rules}
use Rattle.clerk_reasons.proofs.Laws.{ruling}
use Rattle.clerk_reasons.proofs.put_rule.Goals as goal

pub put_text-a-requires : goal.put_text-a-requires
put_text-a-requires c = search (rules, ruling)

pub put_number-b-requires : goal.put_number-b-requires
put_number-b-requires c = search (rules, ruling)

pub put_words-c-requires : goal.put_words-c-requires
put_words-c-requires c = search (rules, ruling)

pub put_byte-d-requires : goal.put_byte-d-requires
put_byte-d-requires c = search (rules, ruling)

pub put_text-requires : goal.put_text-requires
put_text-requires c = search (rules, ruling)

pub returns : goal.returns
returns c = search (rules, ruling)
