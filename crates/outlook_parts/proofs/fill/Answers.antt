use borrow.Author.Rules.{rules}
use Rattle.outlook_parts.proofs.Laws.{field_room_lem, value_low, lens_same, filling}
use Rattle.outlook_parts.proofs.fill.Goals as goal

pub loop-f-init : goal.loop-f-init
loop-f-init c = search (rules, filling)

pub offset_bounds-values-f : goal.offset_bounds-values-f
offset_bounds-values-f c = search (rules, filling)

pub bounds-values-f : goal.bounds-values-f
bounds-values-f c = search (rules, filling)

pub offset_bounds-flat-total : goal.offset_bounds-flat-total
offset_bounds-flat-total c = search (rules, filling)

pub slice_bounds-put_field-count : goal.slice_bounds-put_field-count
slice_bounds-put_field-count c = search (rules, filling)

pub put_field-n-requires : goal.put_field-n-requires
put_field-n-requires c = (search rules, search field_room_lem, search value_low)

pub offset_bounds-lens-f : goal.offset_bounds-lens-f
offset_bounds-lens-f c = search (rules, filling)

pub bounds-lens-f : goal.bounds-lens-f
bounds-lens-f c = search (rules, filling)

pub overflow_mul-p : goal.overflow_mul-p
overflow_mul-p c = search (rules, filling)

pub shape_of-flat-then-p-gt-PARTS : goal.shape_of-flat-then-p-gt-PARTS
shape_of-flat-then-p-gt-PARTS c = search (rules, filling)

pub shape_of-lens-then-p-gt-PARTS : goal.shape_of-lens-then-p-gt-PARTS
shape_of-lens-then-p-gt-PARTS c = search lens_same

pub returns-then-p-gt-PARTS : goal.returns-then-p-gt-PARTS
returns-then-p-gt-PARTS c = search (rules, filling)

pub overflow_add-total : goal.overflow_add-total
overflow_add-total c = search (rules, filling)

pub loop-f-preserved : goal.loop-f-preserved
loop-f-preserved c = search (rules, filling)

pub shape_of-flat : goal.shape_of-flat
shape_of-flat c = search (rules, filling)

pub shape_of-lens : goal.shape_of-lens
shape_of-lens c = search (rules, filling)

pub returns : goal.returns
returns c = search (rules, filling)
