-- What the code answers for the lines of all rules.
use Rattle.std.specs.Prelude.{ℕ, ◌≤◌, ◌≡◌, List, length, drop, Result, Ok, Err}
use Rattle.std.proofs.lemmas.List.Edits.{sets}
use Rattle.meaning.specs.Limits.{rule_limit}
use Rattle.meaning.specs.Reading.{Got, got, wrong}
use Rattle.meaning.specs.Sheet as M
use Rattle.reply.specs.declared.Wrong.{Wrong}
use Rattle.reply.specs.Faults.{wrong_of}
use Rattle.text.specs.declared.Taken.{Taken}
use Rattle.sheet_tables.specs.declared.Rules.{Rules}
use Rattle.sheet_tables.specs.Rules.{as_rules, all_words}

-- The lines of all rules. Each rule stands on a line of its own, so the line come to is the number of the rules: all were read,
pub record AllRead (s was is : List ℕ) (r : Taken Rules) (rs : List M.Rule) (l : ℕ) (t : List ℕ) : Type 0 where
  pub rules : r.value ≡ as_rules rs
  pub rest : drop r.bytes s ≡ t
  pub line : length rs ≡ l
  pub few : length rs ≤ rule_limit
  pub space : is ≡ sets was 0 (all_words rs)

-- or a line was refused, by what the meaning reads
abbrev pub RowsAs : List ℕ → List ℕ → List ℕ → Result (Taken Rules) Wrong → Got (List M.Rule) → Type 0
RowsAs s was is (Ok r) (got rs l t) = AllRead s was is r rs l t
RowsAs s was is (Err w) (wrong n l) = w ≡ wrong_of n l
RowsAs s was is (Ok r) (wrong n l) = ⊥
RowsAs s was is (Err w) (got rs l t) = ⊥
