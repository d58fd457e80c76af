-- A refused sheet is made of blank parts.
use Prim.Native.Nat.{ℕ}
use mathlib.Core.Path.{◌≡◌}
use mathlib.Core.List.{[]}
use lib.ListN.{take, replicate}
use Rattle.theory.specs.Lists.Padded.{padded}
use Rattle.limits.specs.Sizes.{node_room, word_room}
use Rattle.sheet_tables.specs.declared.Heads.{Heads}
use Rattle.sheet_tables.specs.Heads.{blank}
use Rattle.graph_tests.specs.declared.Tests.{Tests}
use Rattle.graph_tests.specs.Table.{as_tests}
use Rattle.step_plan.specs.declared.Plan.{Plan}
use Rattle.step_plan.specs.Plan.{as_plan}
use Rattle.step_sheet.specs.declared.Accepted.{Accepted}
use Rattle.step_sheet.specs.Answers.{refused_sheet}

-- a refusal is made of blank parts
pub refused_is : (n l : ℕ) (x : Heads) (t : Tests) (p : Plan) → x ≡ blank → t ≡ as_tests [] → p ≡ as_plan (take t.count t.rows) (replicate node_room 0) 0
    → ◌≡◌ {A = Accepted} (record { number = n; line = l; heads = x; words = replicate word_room 0; top = 0; plan = p }) (refused_sheet n l)
unfolding as_tests padded
refused_is n l x t p a b c = rw (a, c, b)
