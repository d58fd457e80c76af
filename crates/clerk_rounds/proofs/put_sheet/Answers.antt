-- The counts where there is a testing order, otherwise the circle.
use borrow.Author.Rules.{rules}
use Rattle.clerk_rounds.proofs.Laws.{sheeting}
use Rattle.clerk_rounds.proofs.put_sheet.Goals as goal

pub overflow_add-statuses : goal.overflow_add-statuses
overflow_add-statuses c = search (rules, sheeting)

pub testing_order-sorted-requires : goal.testing_order-sorted-requires
testing_order-sorted-requires c = search (rules, sheeting)

pub put_counts-requires : goal.put_counts-requires
put_counts-requires c = search (rules, sheeting)

pub returns-then-is_some : goal.returns-then-is_some
returns-then-is_some c = search (rules, sheeting)

pub circle_of-requires : goal.circle_of-requires
circle_of-requires c = search (rules, sheeting)

pub put_cycle-requires : goal.put_cycle-requires
put_cycle-requires c = search (rules, sheeting)

pub returns : goal.returns
returns c = search (rules, sheeting)
