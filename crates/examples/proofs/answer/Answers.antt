-- The output lies in the space that it is put into.
use Rattle.desk_output.proofs.Callers.{printing}
use Rattle.examples.proofs.answer.Goals as goal

pub slice_bounds-write_all-end : goal.slice_bounds-write_all-end
slice_bounds-write_all-end g c = search printing
