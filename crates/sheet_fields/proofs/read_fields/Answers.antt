use Rattle.theory.specs.Reading.BuiltPapers.{fields_built}
use Rattle.sheet_section.proofs.Sections.{read_told}
use Rattle.sheet_fields.proofs.read_fields.Goals as goal

pub returns-in-Ok : goal.returns-in-Ok
returns-in-Ok g c = read_told fields_built _ _ _ _ _ _ c.in-Ok.is _ c.fields_behind.ensures _ c.as_told.ensures
