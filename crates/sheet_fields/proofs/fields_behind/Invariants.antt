-- At each turn the rest of the section begins at the place come to, behind the fields in the tables.
use Prim.Native.Nat.{◌-◌}
use Rattle.meaning.specs.Limits.{field_limit}
use Rattle.sheet_fields.proofs.Fields.{Fields}
use Rattle.sheet_fields.proofs.fields_behind.Given as goal

abbrev pub invariant-lines : goal.invariant-lines
invariant-lines l = Fields l.s l.fn.before l.above

abbrev pub decreases-lines : goal.decreases-lines
decreases-lines l = field_limit - l.above.heads.fields
