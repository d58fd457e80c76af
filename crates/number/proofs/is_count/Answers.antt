-- `is_count` compares a place with the count's: below the middle none is, and above it the differences are compared.
use borrow.Author.Rules.{rules}
use Rattle.number.proofs.Ends.{count_below, count_same}
use Rattle.number.proofs.is_count.Goals as goal

pub returns-then-v-lt-MIDDLE : goal.returns-then-v-lt-MIDDLE
returns-then-v-lt-MIDDLE c = search (rules, count_below)

pub returns : goal.returns
returns c = search (rules, count_same)
