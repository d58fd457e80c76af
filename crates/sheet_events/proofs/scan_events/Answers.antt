use borrow.Author.Rules.{rules}
use Rattle.sheet_events.proofs.Pieces.{piecing}
use Rattle.sheet_events.proofs.Events.{reading}
use Rattle.sheet_events.proofs.scan_events.Goals as goal

pub scan-init : goal.scan-init
scan-init c = search (rules, reading)

pub returns-in-Ok-None : goal.returns-in-Ok-None
returns-in-Ok-None c = search (rules, reading)

pub pieces-init : goal.pieces-init
pieces-init c = search (rules, reading)

pub bounds-carried-count : goal.bounds-carried-count
bounds-carried-count c = search (rules, piecing)

pub overflow_cast-carried : goal.overflow_cast-carried
overflow_cast-carried c = search (rules, piecing)

pub pieces-smaller : goal.pieces-smaller
pieces-smaller c = search (rules, piecing)

pub pieces-preserved : goal.pieces-preserved
pieces-preserved c = search (rules, piecing)

pub overflow_add-above-in-scan-4 : goal.overflow_add-above-in-scan-4
overflow_add-above-in-scan-4 c = search (rules, reading)

pub overflow_add-above-in-scan-5 : goal.overflow_add-above-in-scan-5
overflow_add-above-in-scan-5 c = search (rules, reading)

pub scan-preserved : goal.scan-preserved
scan-preserved c = search (rules, reading)

pub returns-in-Err : goal.returns-in-Err
returns-in-Err c = search (rules, reading)

pub returns-in-Err-next_piece : goal.returns-in-Err-next_piece
returns-in-Err-next_piece c = search (rules, reading)
