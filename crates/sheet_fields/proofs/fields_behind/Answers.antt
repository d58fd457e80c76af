use mathlib.Core.Path.{◌≡◌}
use borrow.Author.Rules.{rules}
use Rattle.std.specs.Prelude.{None}
use Rattle.sheet_fields.proofs.Fields.{fielding, fields_over}
use Rattle.sheet_fields.proofs.fields_behind.Goals as goal

pub lines-init : goal.lines-init
lines-init c = search (rules, fielding)

pub returns-in-Err : goal.returns-in-Err
returns-in-Err c = search (rules, fielding)

pub returns-in-Ok-None : goal.returns-in-Ok-None
returns-in-Ok-None c =
    let none : c.in-Ok-None.field-0 ≡ None = rw c.in-Ok-None.is at c.in-Ok-None.field-0-is in
    fields_over _ _ _ c.lines.invariant _ _ c.rest.ensures c.field_line-row.ensures _ c.in-Ok-None.is none

pub lines-preserved : goal.lines-preserved
lines-preserved c = search (rules, fielding)
