-- What the code answers for a rule's line that the meaning reads, and what the lent words then are.
use Rattle.std.specs.Prelude.{ℕ, ◌+◌, ◌*◌, ◌≤◌, List, length, Result}
use Rattle.meaning.specs.Limits.{field_limit, event_limit, status_limit, leaf_limit}
use Rattle.meaning.specs.Reading.{Got}
use Rattle.meaning.specs.Name.{Name}
use Rattle.meaning.specs.Sheet as M
use Rattle.meaning.specs.Sheet.{leaves_of}
use Rattle.limits.specs.Sizes.{word_room}
use Rattle.theory.specs.Reading.Piece.{as_piece}
use Rattle.reply.specs.declared.Fault.{Fault}
use Rattle.reply.specs.Faults.{fault_of}
use Rattle.cond_item.specs.Answers.{stored_by}
use Rattle.sheet_tables.specs.Rules.{words_of, as_rule}
use Rattle.sheet_rule.specs.declared.Row.{Row}

-- a rule behind `top` words and `leaves` leaves, the bytes of its line, and how many words and leaves there are now
abbrev pub row_at : ℕ → ℕ → M.Rule → ℕ → Row
row_at top leaves r n = record {
  rule = as_rule top r;
  bytes = n;
  top = top + length (words_of r.condition);
  leaves = leaves + length (leaves_of r.condition);
}

-- or the fault
abbrev pub as_row : List ℕ → ℕ → ℕ → Got M.Rule → Result Row Fault
as_row s top leaves g = as_piece (row_at top leaves) fault_of s g

-- the lent words: those of the condition from `top` on; where the line is refused, all from `top` on are cleared
abbrev pub rule_space : List ℕ → ℕ → Got M.Rule → List ℕ
rule_space was top g = stored_by (λ r. words_of r.condition) was top g

-- what a line's reader is given: names within their limits, and room for the words of all leaves
pub record Room (fields events statuses : List Name) (was : List ℕ) (top leaves : ℕ) : Type 0 where
  pub few_fields : length fields ≤ field_limit
  pub few_events : length events ≤ event_limit
  pub few_statuses : length statuses ≤ status_limit
  pub few_leaves : leaves ≤ leaf_limit
  pub few_words : top ≤ 2 * leaves
  pub room : word_room ≤ length was
