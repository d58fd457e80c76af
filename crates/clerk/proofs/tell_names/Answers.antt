-- The output lies in the space that it is put into.
use Rattle.clerk_outlook.proofs.Callers.{printing}
use Rattle.clerk.proofs.tell_names.Goals as goal

pub slice_bounds-write_all-end : goal.slice_bounds-write_all-end
slice_bounds-write_all-end g c = search printing
