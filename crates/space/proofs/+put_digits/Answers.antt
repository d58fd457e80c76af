use Rattle.std.proofs.Common.{rules}
use Rattle.space.proofs.Laws.{digiting}
use Rattle.space.proofs.+put_digits.Goals as goal

pub returns-then-left-eq0 : goal.returns-then-left-eq0
returns-then-left-eq0 t c = search (rules, digiting)

pub put_byte-requires : goal.put_byte-requires
put_byte-requires t c = search (rules, digiting)

pub returns-then-n-lt10 : goal.returns-then-n-lt10
returns-then-n-lt10 t c = search (rules, digiting)

pub put_digits-a-requires : goal.put_digits-a-requires
put_digits-a-requires t c = search (rules, digiting)

pub put_byte-requires-2 : goal.put_byte-requires-2
put_byte-requires-2 t c = search (rules, digiting)

pub returns : goal.returns
returns t c = search (rules, digiting)
