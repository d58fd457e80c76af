use borrow.Author.Rules.{rules}
use Rattle.sheet_heads.proofs.Whole.{sectioning}
use Rattle.sheet_heads.proofs.read_heads.Goals as goal

pub read_model-model-requires : goal.read_model-model-requires
read_model-model-requires c = search (rules, sectioning)

pub read_fields-fields-requires : goal.read_fields-fields-requires
read_fields-fields-requires c = search (rules, sectioning)

pub read_events-events-requires : goal.read_events-events-requires
read_events-events-requires c = search (rules, sectioning)

pub read_stages-stages-requires : goal.read_stages-stages-requires
read_stages-stages-requires c = search (rules, sectioning)

pub read_miles-requires : goal.read_miles-requires
read_miles-requires c = search (rules, sectioning)

pub returns : goal.returns
returns c = search (rules, sectioning)
