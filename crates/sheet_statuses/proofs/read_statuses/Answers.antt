use mathlib.Core.Path.{◌≡◌, refl}
use borrow.Author.Rules.{rules}
use Rattle.std.specs.Prelude.{Some, None}
use Rattle.sheet_statuses.proofs.Statuses.{statusing, statuses_over, statuses_byte, statuses_more}
use Rattle.sheet_statuses.proofs.read_statuses.Goals as goal

pub lines-init : goal.lines-init
lines-init c = search (rules, statusing)

pub returns-in-Err : goal.returns-in-Err
returns-in-Err c = search (rules, statusing)

pub returns-in-Ok-None : goal.returns-in-Ok-None
returns-in-Ok-None c =
    let none : c.in-Ok-None.field-0 ≡ None = rw c.in-Ok-None.is at c.in-Ok-None.field-0-is in
    statuses_over _ _ _ _ _ c.lines.invariant _ _ c.rest.ensures c.status_row-row.ensures _ c.in-Ok-None.is none

pub overflow_cast-above : goal.overflow_cast-above
overflow_cast-above c =
    let some : c.in-Ok-Some.field-0 ≡ Some c.in-Ok-Some.status = rw c.in-Ok-Some.is at c.in-Ok-Some.field-0-is in
    statuses_byte _ _ _ _ _ c.lines.invariant _ _ c.rest.ensures c.status_row-row.ensures _ c.in-Ok-Some.is _ some

pub lines-preserved : goal.lines-preserved
lines-preserved c =
    let some : c.in-Ok-Some.field-0 ≡ Some c.in-Ok-Some.status = rw c.in-Ok-Some.is at c.in-Ok-Some.field-0-is in
    statuses_more _ _ _ _ _ c.lines.invariant _ _ c.rest.ensures c.status_row-row.ensures _ c.in-Ok-Some.is _ some _ refl _ refl _ c.put.ensures
