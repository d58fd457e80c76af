use Rattle.std.proofs.Common.{rules}
use Rattle.std.proofs.lemmas.Result.{err_from_is_err_and}
use Rattle.cond_read.proofs.Listed.{list_start, list_ready, list_refused, list_fits, list_room_lem, list_end, list_on, list_less, list_next}
use Rattle.cond_read.proofs.Items.{no_more, some_more, item_ended, item_not_deep, item_not_within, item_not, item_leaf, item_group_deep, item_group_within, item_group}
use Rattle.cond_read.proofs.+readers.Goals as goal

pub and_list-loop-q-init : goal.and_list-loop-q-init
and_list-loop-q-init t c = search (rules, list_start)

pub and_list-item-requires : goal.and_list-item-requires
and_list-item-requires t c = search (rules, list_ready)

pub and_list-returns-in_err-q : goal.and_list-returns-in_err-q
and_list-returns-in_err-q t c =
    let e = c.from_residual.ensures in
    let p = err_from_is_err_and c.from_residual.result e.1 in
    let h = c.in_err-q.was in
    rw (p.1, p.2) (search (rules, list_refused))

pub and_list-overflow_add-place : goal.and_list-overflow_add-place
and_list-overflow_add-place t c = let h = c.in_ok-q.was in search (rules, list_fits)

pub and_list-join_word-requires : goal.and_list-join_word-requires
and_list-join_word-requires t c = let h = c.in_ok-q.was in search list_room_lem

pub and_list-returns-then-not-stands_at : goal.and_list-returns-then-not-stands_at
and_list-returns-then-not-stands_at t c = let h = c.in_ok-q.was in search (rules, list_end)

pub and_list-overflow_add-place-in-loop-q : goal.and_list-overflow_add-place-in-loop-q
and_list-overflow_add-place-in-loop-q t c = let h = c.in_ok-q.was in search (rules, list_next)

pub and_list-loop-q-smaller : goal.and_list-loop-q-smaller
and_list-loop-q-smaller t c = let h = c.in_ok-q.was in search (rules, list_less)

pub and_list-loop-q-preserved : goal.and_list-loop-q-preserved
and_list-loop-q-preserved t c = let h = c.in_ok-q.was in search (rules, list_on)

pub condition-loop-q-init : goal.condition-loop-q-init
condition-loop-q-init t c = search (rules, list_start)

pub condition-and_list-requires : goal.condition-and_list-requires
condition-and_list-requires t c = search (rules, list_ready)

pub condition-returns-in_err-q : goal.condition-returns-in_err-q
condition-returns-in_err-q t c =
    let e = c.from_residual.ensures in
    let p = err_from_is_err_and c.from_residual.result e.1 in
    let h = c.in_err-q.was in
    rw (p.1, p.2) (search (rules, list_refused))

pub condition-overflow_add-place : goal.condition-overflow_add-place
condition-overflow_add-place t c = let h = c.in_ok-q.was in search (rules, list_fits)

pub condition-join_word-requires : goal.condition-join_word-requires
condition-join_word-requires t c = let h = c.in_ok-q.was in search list_room_lem

pub condition-returns-then-not-stands_at : goal.condition-returns-then-not-stands_at
condition-returns-then-not-stands_at t c = let h = c.in_ok-q.was in search (rules, list_end)

pub condition-overflow_add-place-in-loop-q : goal.condition-overflow_add-place-in-loop-q
condition-overflow_add-place-in-loop-q t c = let h = c.in_ok-q.was in search (rules, list_next)

pub condition-loop-q-smaller : goal.condition-loop-q-smaller
condition-loop-q-smaller t c = let h = c.in_ok-q.was in search (rules, list_less)

pub condition-loop-q-preserved : goal.condition-loop-q-preserved
condition-loop-q-preserved t c = let h = c.in_ok-q.was in search (rules, list_on)

pub item-returns-then-is_empty : goal.item-returns-then-is_empty
item-returns-then-is_empty t c = search (rules, item_ended, no_more)

pub item-returns-then-around-eq0 : goal.item-returns-then-around-eq0
item-returns-then-around-eq0 t c = search (rules, item_not_deep, some_more)

pub item-behind-requires : goal.item-behind-requires
item-behind-requires t c = search (rules, item_not_within, some_more)

pub item-returns-then-starts : goal.item-returns-then-starts
item-returns-then-starts t c = search (rules, item_not, some_more)

pub item-returns-then-not-starts : goal.item-returns-then-not-starts
item-returns-then-not-starts t c = search (rules, item_leaf, some_more)

pub item-returns-then-around-eq0-2 : goal.item-returns-then-around-eq0-2
item-returns-then-around-eq0-2 t c = search (rules, item_group_deep, some_more)

pub item-closed-requires : goal.item-closed-requires
item-closed-requires t c = search (item_group_within, some_more)

pub item-returns : goal.item-returns
item-returns t c = search (rules, item_group, some_more)
