-- The tests as a table, read off the tables of a sheet: the rules in sheet order, then the closings of its child stages.
use Rattle.std.specs.Prelude.{ℕ, zero, suc, ◌+◌, ◌<◌, cond, List, [], ◌∷◌, ◌++◌, eqb, length, get_or, take}
use Rattle.std.proofs.lemmas.List.Edits.{sets}
use Rattle.meaning.specs.Text.{keep}
use Rattle.meaning.specs.Tests.{up, down}
use Rattle.meaning.specs.Limits.{rule_limit, status_limit}
use Rattle.theory.specs.Lists.Padded.{padded}
use Rattle.limits.specs.Sizes.{test_room}
use Rattle.sheet_tables.specs.declared.Trigger.TheVariants.{Always, Fall}
use Rattle.sheet_tables.specs.declared.Rule.{Rule}
use Rattle.sheet_tables.specs.Rules.{no_rule}
use Rattle.sheet_tables.specs.declared.Rules.{Rules}
use Rattle.graph_tests.specs.declared.Test.{Test}
use Rattle.graph_tests.specs.declared.Tests.{Tests}

-- a row that is no test
abbrev pub no_test : Test
no_test = record { node = 0; home = 0; trigger = Always; from = 0; to = 0; line = 0 }

-- the test of a rule on line l: a `+` rule asks for the stage over its status
abbrev pub rule_test : List ℕ → ℕ → Rule → Test
rule_test under l r = record {
  node = cond r.plus (up r.status) (down r.status);
  home = cond r.plus (get_or under r.status 0) 0;
  trigger = r.trigger;
  from = r.from;
  to = r.to;
  line = l;
}

-- the implied rule: stage x closes when its parent p falls
abbrev pub closes : ℕ → ℕ → Test
closes x p = record { node = down x; home = 0; trigger = Fall p; from = 0; to = 0; line = 0 }

-- the rules from line l on
unfoldable pub rule_rows : List ℕ → ℕ → List Rule → List Test
rule_rows under l [] = []
rule_rows under l (r ∷ rs) = rule_test under l r ∷ rule_rows under (suc l) rs

-- a stage with the code of its parent
abbrev pub closing_row : ℕ → ℕ → List Test
closing_row x zero = []
closing_row x (suc p) = closes x p ∷ []

-- the stages from place x on
unfoldable pub closing_rows : ℕ → List ℕ → List Test
closing_rows x [] = []
closing_rows x (u ∷ us) = closing_row x u ++ closing_rows (suc x) us

-- the table of some tests
unfoldable pub as_tests : List Test → Tests
as_tests ts = record { rows = padded test_room no_test ts; count = length ts }

-- more tests behind those of a table
abbrev pub behind : Tests → List Test → Tests
behind t ts = record { rows = sets t.rows t.count ts; count = t.count + length ts }

-- the line of the first rule: behind one for the model and one for each name
abbrev pub first_line : ℕ → ℕ → ℕ → ℕ → ℕ
first_line fields events stages miles = 2 + fields + events + stages + miles

-- the table of a sheet's tests
unfoldable pub tests_of : Rules → List ℕ → ℕ → ℕ → Tests
tests_of rules under stages line = as_tests (rule_rows under line (take rules.count rules.rows) ++ closing_rows 0 (take stages under))

-- the rows of a node
unfoldable pub rows_for : List Test → ℕ → List Test
rows_for rows k = keep (λ t. eqb t.node k) rows

-- what a caller sees to: statuses are places among 32, and every rule's line fits
pub record Ready (rules : Rules) (line : ℕ) : Type 0 where
  pub statuses : (i : ℕ) → (get_or rules.rows i no_rule).status < status_limit
  pub lines : line + rule_limit < 65536
