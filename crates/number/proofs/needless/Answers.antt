-- `needless` says whether a zero has another digit behind it: by the length, the first byte and the second.
use borrow.Author.Rules.{rules}
use Rattle.number.proofs.Laws.{first_digits}
use Rattle.number.proofs.needless.Goals as goal

pub returns-then-s-lt2 : goal.returns-then-s-lt2
returns-then-s-lt2 c = search (rules, first_digits)

pub bounds-s-0 : goal.bounds-s-0
bounds-s-0 c = search (rules, first_digits)

pub returns-then-s-ne48 : goal.returns-then-s-ne48
returns-then-s-ne48 c = search (rules, first_digits)

pub bounds-s-1 : goal.bounds-s-1
bounds-s-1 c = search (rules, first_digits)

pub is_digit-requires : goal.is_digit-requires
is_digit-requires c = search (rules, first_digits)

pub returns : goal.returns
returns c = search (rules, first_digits)
