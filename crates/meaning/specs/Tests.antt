-- Rules as they are tested. A test says of one node what must come about for its change; the tests of a sheet are its rules and the implied ones, and nothing
-- else of its form matters to a step.
use Rattle.std.specs.Prelude.{ℕ, suc, ◌+◌, ◌*◌, List, [], ◌∷◌, ◌++◌, length}
use Rattle.std.proofs.Math.Option.{Option, none, some}
use Rattle.meaning.specs.Text.{joined}
use Rattle.meaning.specs.Condition.{Cond, Leaf}
use Rattle.meaning.specs.Sheet.{Heads, Sheet, Status, Sign, plus, minus, Trigger, fall, Rule, statuses, stage_over, leaves_of}

-- "Two nodes for each status, `+x` and `-x`": the numbers 2x and 2x + 1
abbrev pub up : ℕ → ℕ
up x = x * 2

-- "Two nodes for each status, `+x` and `-x`": the second of them
abbrev pub down : ℕ → ℕ
down x = x * 2 + 1

-- "both `+y` and `-y`"
abbrev pub both : ℕ → List ℕ
both x = up x ∷ down x ∷ []

-- "Two nodes for each status, `+x` and `-x`": they are the numbers below this one
unfoldable pub nodes : Heads → ℕ
nodes hd = length (statuses hd) * 2

-- the node of a sign and a status: "For a rule with consequent c" that of c
abbrev pub node : Sign → ℕ → ℕ
node plus x = up x
node minus x = down x

-- what is tested, on the card before and after the step
pub record Test : Type 0 where
  -- the node that it sets
  pub node : ℕ
  -- a stage that must have been yes before; no sheet of document 01 asks for one
  pub needs : Option ℕ
  pub trigger : Trigger
  -- a stage that must be yes after
  pub home : Option ℕ
  pub condition : Option Cond
  -- its line on the sheet; 0 for an implied one
  pub line : ℕ

-- THE TESTS OF A SHEET: the only place where the form of a sheet matters

-- "a `+` rule whose status has a parent or home: that stage is yes after"; a `-` rule asks for none. "a parent or home p of a `+` rule's status gives both
-- `+p` and `-p`"
abbrev pub home_of : Sign → Option ℕ → Option ℕ
home_of plus h = h
home_of minus h = none

-- the test of a rule that stands on line l; "For a rule with consequent c": its node
unfoldable pub test_of : Heads → ℕ → Rule → Test
test_of hd l r =
    record {
      node = node r.sign r.status;
      needs = none;
      trigger = r.trigger;
      home = home_of r.sign (stage_over hd r.status);
      condition = r.condition;
      line = l;
    }

-- the rules from line l on
unfoldable pub rule_tests : Heads → ℕ → List Rule → List Test
rule_tests hd l [] = []
rule_tests hd l (r ∷ rs) = test_of hd l r ∷ rule_tests hd (suc l) rs

-- the line of a status, by its place: behind those of the model, the fields and the events
abbrev pub status_line : Heads → ℕ → ℕ
status_line hd x = 2 + length hd.fields + length hd.events + x

-- the line of the first rule: behind that of the last status
unfoldable pub rule_line : Heads → ℕ
rule_line hd = status_line hd (length (statuses hd))

-- "One rule is implied: a stage that was yes closes when its parent goes from yes to no": of stage x and its parent p, the trigger is `-p`; "Each child stage
-- adds `-parent` to `-child`"
abbrev pub closes : ℕ → ℕ → Test
closes x p = record { node = down x; needs = none; trigger = fall p; home = none; condition = none; line = 0 }

-- of a stage with a parent, if any
abbrev pub closing : ℕ → Option ℕ → List Test
closing x none = []
closing x (some p) = closes x p ∷ []

-- "One rule is implied: a stage that was yes closes when its parent goes from yes to no", for each of the stages from place x on
unfoldable pub implied : ℕ → List Status → List Test
implied x [] = []
implied x (s ∷ ss) = closing x s.under ++ implied (suc x) ss

-- the rules of the sheet and the implied ones: "Each child stage adds `-parent` to `-child`"
unfoldable pub tests : Sheet → List Test
tests sh = rule_tests sh.heads (rule_line sh.heads) sh.rules ++ implied 0 sh.heads.stages

-- the leaves of all conditions
unfoldable pub leaves_in : List Test → List Leaf
leaves_in ts = joined (λ t. leaves_of t.condition) ts
