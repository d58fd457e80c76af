use Rattle.theory.specs.Reading.BuiltPapers.{events_built}
use Rattle.sheet_section.proofs.Sections.{read_told}
use Rattle.sheet_events.proofs.read_events.Goals as goal

pub returns-in-Ok : goal.returns-in-Ok
returns-in-Ok g c = read_told events_built _ _ _ _ _ _ c.in-Ok.is _ c.scan_events.ensures _ c.as_told.ensures
