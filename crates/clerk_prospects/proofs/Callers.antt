-- What callers use: on the tables of a sheet the names are those of its statuses.
use mathlib.Core.Path.{◌≡◌}
use Rattle.meaning.specs.Sheet as M
use Rattle.meaning.specs.Sheet.{status_names, statuses}
use Rattle.theory.specs.Papers.Formed.{WellHeads}
use Rattle.sheet_tables.specs.Heads.{names_at, as_heads}
use Rattle.clerk_reasons.proofs.Callers as Reasons
use Rattle.clerk_prospects.specs.Lines.{status_names_of}

pub status_names_lem : (hd : M.Heads) → WellHeads hd → status_names_of (as_heads hd) ≡ status_names (statuses hd)
unfolding names_at
status_names_lem hd w = Reasons.status_names_lem hd w
