-- The rows of the meaning's tests, and when a row stands for a test.
use Rattle.std.specs.Prelude.{ℕ, ◌+◌, ◌-◌, ◌≡◌, List, [], ◌∷◌, ◌++◌, map, length, take, drop}
use Rattle.std.proofs.Math.Option.{none}
use Rattle.meaning.specs.Sheet.{Sheet}
use Rattle.meaning.specs.Tests as M
use Rattle.meaning.specs.Tests.{rule_tests, rule_line, implied}
use Rattle.sheet_tables.specs.Heads.{under_code}
use Rattle.sheet_tables.specs.Rules.{as_trigger, words_of}
use Rattle.graph_tests.specs.declared.Test.{Test}

-- the row of a test whose condition's words begin at `top`
unfoldable pub test_row : ℕ → M.Test → Test
test_row top t = record {
  node = t.node;
  home = under_code t.home;
  trigger = as_trigger t.trigger;
  from = top;
  to = top + length (words_of t.condition);
  line = t.line;
}

-- the rows of tests whose words stand one behind another
unfoldable pub test_rows : ℕ → List M.Test → List Test
test_rows top [] = []
test_rows top (t ∷ ts) = test_row top t ∷ test_rows (top + length (words_of t.condition)) ts

-- the rows of a sheet's tests; the implied ones have no words
unfoldable pub rows_of : Sheet → List Test
rows_of sh = test_rows 0 (rule_tests sh.heads (rule_line sh.heads) sh.rules) ++ map (test_row 0) (implied 0 sh.heads.stages)

-- a row stands for a test, with the words of all conditions at hand; a test of document 01 needs no stage from before
pub record Stands (words : List ℕ) (t : M.Test) (r : Test) : Type 0 where
  pub node : r.node ≡ t.node
  pub needs : t.needs ≡ none
  pub trigger : r.trigger ≡ as_trigger t.trigger
  pub home : r.home ≡ under_code t.home
  pub part : take (r.to - r.from) (drop r.from words) ≡ words_of t.condition
  pub bare : t.condition ≡ none → r.from ≡ r.to
  pub line : r.line ≡ t.line

-- rows stand for tests, one by one
abbrev pub Standing : List ℕ → List M.Test → List Test → Type 0
Standing words [] [] = Unit {0}
Standing words [] (r ∷ rs) = ⊥
Standing words (t ∷ ts) [] = ⊥
Standing words (t ∷ ts) (r ∷ rs) = Stands words t r × Standing words ts rs
