use Rattle.graph_circle.proofs.Laws.{told_is}
use Rattle.graph_circle.proofs.told.Goals as goal

pub returns : goal.returns
returns c =
    let copied = c.copy_from_slice in
    told_is _ _ _ c.requires copied.ensures.after
