-- The rules of a sheet as a table, and the words of their conditions.
use Rattle.std.specs.Prelude.{ℕ, ◌+◌, Bool, true, false, List, [], ◌∷◌, length}
use Rattle.std.proofs.Math.Option.{Option, none, some}
use Rattle.meaning.specs.Text.{joined}
use Rattle.meaning.specs.Limits.{rule_limit}
use Rattle.meaning.specs.Condition.{Cond}
use Rattle.meaning.specs.Sheet as M
use Rattle.meaning.specs.Sheet.{Sign, plus, minus, leaves}
use Rattle.cond_value.specs.Flat.{words}
use Rattle.sheet_tables.specs.declared.Trigger.{Trigger}
use Rattle.sheet_tables.specs.declared.Trigger.TheVariants.{Always, Event, Rise, Fall}
use Rattle.sheet_tables.specs.declared.Rule.{Rule}
use Rattle.sheet_tables.specs.declared.Rules.{Rules}
use Rattle.theory.specs.Lists.Padded.{padded}

abbrev pub is_plus : Sign → Bool
is_plus plus = true
is_plus minus = false

-- "A trigger is an event, or `+` or `-` and a status"
abbrev pub as_trigger : M.Trigger → Trigger
as_trigger M.Trigger.always = Always
as_trigger (M.Trigger.event e) = Event e
as_trigger (M.Trigger.rise x) = Rise x
as_trigger (M.Trigger.fall x) = Fall x

-- the words of a rule's condition
unfoldable pub words_of : Option Cond → List ℕ
words_of none = []
words_of (some c) = words c

-- a rule whose condition's words begin at `top`
unfoldable pub as_rule : ℕ → M.Rule → Rule
as_rule top r = record {
  plus = is_plus r.sign;
  status = r.status;
  trigger = as_trigger r.trigger;
  from = top;
  to = top + length (words_of r.condition);
}

-- a row that is no rule
abbrev pub no_rule : Rule
no_rule = record { plus = false; status = 0; trigger = Always; from = 0; to = 0 }

-- the rules, one after another
unfoldable pub as_rows : ℕ → List M.Rule → List Rule
as_rows top [] = []
as_rows top (r ∷ rs) = as_rule top r ∷ as_rows (top + length (words_of r.condition)) rs

-- the words of all conditions, one after another
unfoldable pub all_words : List M.Rule → List ℕ
all_words rs = joined (λ r. words_of r.condition) rs

-- the table
unfoldable pub as_rules : List M.Rule → Rules
as_rules rs = record { rows = padded rule_limit no_rule (as_rows 0 rs); count = length rs; top = length (all_words rs); leaves = length (leaves rs) }
