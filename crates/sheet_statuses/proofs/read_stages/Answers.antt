use Rattle.meaning.specs.Text.{text}
use Rattle.meaning.specs.Sheet.{with_stage}
use Rattle.theory.specs.Reading.BuiltPapers.{statuses_built}
use Rattle.sheet_section.proofs.Sections.{read_told}
use Rattle.sheet_statuses.proofs.read_stages.Goals as goal

pub returns-in-Ok : goal.returns-in-Ok
returns-in-Ok g c = read_told (statuses_built (text "stage=") with_stage) _ _ _ _ _ _ c.in-Ok.is _ c.read_statuses.ensures _ c.as_told.ensures
