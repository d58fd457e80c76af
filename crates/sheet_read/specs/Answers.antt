-- What the code answers for a sheet that the meaning reads.
use Rattle.std.specs.Prelude.{ℕ, ◌≤◌, ◌≡◌, List, length, replicate, Result, Ok}
use Rattle.std.proofs.lemmas.List.Edits.{sets}
use Rattle.meaning.specs.Limits.{sheet_bytes}
use Rattle.meaning.specs.Refusal.{Answer, taken, refused}
use Rattle.meaning.specs.Sheet as M
use Rattle.meaning.specs.ReadSheet.{heads}
use Rattle.theory.specs.Reading.Piece.{as_paper}
use Rattle.limits.specs.Sizes.{word_room}
use Rattle.reply.specs.declared.Wrong.{Wrong}
use Rattle.reply.specs.Faults.{wrong_of}
use Rattle.sheet_tables.specs.Heads.{as_heads}
use Rattle.sheet_tables.specs.Rules.{all_words, as_rules}
use Rattle.sheet_section.specs.declared.Above.{Above}
use Rattle.sheet_section.specs.Answers.{as_above}
use Rattle.sheet_read.specs.declared.SheetRead.{SheetRead}

-- the tables and the rules
abbrev pub sheet_tables : M.Sheet → SheetRead
sheet_tables sh = record { heads = as_heads sh.heads; rules = as_rules sh.rules }

-- or the refusal
abbrev pub as_sheet_read : Answer M.Sheet → Result SheetRead Wrong
as_sheet_read = as_paper sheet_tables (λ n p l. wrong_of n l)

-- the words of all conditions at the start of their array
abbrev pub words_read : Answer M.Sheet → List ℕ
words_read (taken sh) = sets (replicate word_room 0) 0 (all_words sh.rules)
words_read (refused n p l) = replicate word_room 0

-- a sheet of few enough bytes, of which all above the rules was read; and the words are blank
pub record Begun (s : List ℕ) (h : Above) (words : List ℕ) : Type 0 where
  pub is : Ok h ≡ as_above s (heads 1 s)
  pub few : length s ≤ sheet_bytes
  pub blank : words ≡ replicate word_room 0
