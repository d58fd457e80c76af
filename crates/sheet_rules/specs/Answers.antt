-- What the code answers for the rules that the meaning reads, and what the lent words then are.
use Rattle.std.specs.Prelude.{ℕ, ◌+◌, ◌≤◌, List, length, replicate, Result, Ok, Err}
use Rattle.std.proofs.lemmas.List.Edits.{sets}
use Rattle.meaning.specs.Limits.{field_limit, event_limit, status_limit}
use Rattle.meaning.specs.Reading.{Got, got, wrong}
use Rattle.meaning.specs.Name.{Name}
use Rattle.meaning.specs.Sheet as M
use Rattle.limits.specs.Sizes.{word_room}
use Rattle.reply.specs.declared.Wrong.{Wrong}
use Rattle.reply.specs.Faults.{wrong_of}
use Rattle.sheet_tables.specs.declared.Rules.{Rules}
use Rattle.sheet_tables.specs.Rules.{all_words, as_rules}

-- the rules; or a fault and its line, where the first rule would stand on line 0
abbrev pub as_rules_read : Got (List M.Rule) → Result Rules Wrong
as_rules_read (got rs l t) = Ok (as_rules rs)
as_rules_read (wrong n l) = Err (wrong_of n l)

-- the lent words: those of all conditions from the start; where the rules are refused, all cleared
abbrev pub words_space : List ℕ → Got (List M.Rule) → List ℕ
words_space was (got rs l t) = sets was 0 (all_words rs)
words_space was (wrong n l) = replicate (length was) 0

-- what a caller sees to: names within their limits, and room for the words of all leaves
pub record Ready (names : List Name) (was : List ℕ) (fields events statuses : ℕ) : Type 0 where
  pub few_fields : fields ≤ field_limit
  pub few_events : events ≤ event_limit
  pub few_statuses : statuses ≤ status_limit
  pub named_all : fields + events + statuses ≤ length names
  pub room : word_room ≤ length was
