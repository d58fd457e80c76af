-- `outlook_parts::put_field` puts in the values to be tried in one field: one, or the lowest number and the cuts behind it.
use borrow.Author.Rules.{rules}
use native.Mathlib.Omega.{arith}
use lib.ListN.{length-set, length-take, length-drop}
use Rattle.outlook_parts.proofs.Laws.{putting}
use Rattle.outlook_parts.proofs.put_field.Goals as goal

pub overflow_cast-out : goal.overflow_cast-out
overflow_cast-out c = search (rules, putting)

pub bounds-out-0 : goal.bounds-out-0
bounds-out-0 c = search (rules, putting)

pub shape_of-out-then-fields-f : goal.shape_of-out-then-fields-f
shape_of-out-then-fields-f c = search (rules, putting)

pub returns-then-fields-f : goal.returns-then-fields-f
returns-then-fields-f c = search (rules, putting)

pub overflow_cast-out-then-v-ne0 : goal.overflow_cast-out-then-v-ne0
overflow_cast-out-then-v-ne0 c = search (rules, putting)

pub bounds-out-0-then-v-ne0 : goal.bounds-out-0-then-v-ne0
bounds-out-0-then-v-ne0 c = search (rules, putting)

pub shape_of-out-then-v-ne0 : goal.shape_of-out-then-v-ne0
shape_of-out-then-v-ne0 c = search (rules, putting)

pub returns-then-v-ne0 : goal.returns-then-v-ne0
returns-then-v-ne0 c = search (rules, putting)

pub bounds-out-0-2 : goal.bounds-out-0-2
bounds-out-0-2 c = search (rules, putting)

pub slice_bounds-field_cuts-count : goal.slice_bounds-field_cuts-count
slice_bounds-field_cuts-count c = simp length-set (omega arith)

pub field_cuts-n-requires : goal.field_cuts-n-requires
field_cuts-n-requires c = (search rules, simp (length-take, length-drop, length-set) (omega arith))

pub overflow_add-result : goal.overflow_add-result
overflow_add-result c = search (rules, putting)

pub shape_of-out : goal.shape_of-out
shape_of-out c = search (rules, putting)

pub returns : goal.returns
returns c = search (rules, putting)
