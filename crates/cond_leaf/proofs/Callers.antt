-- What a caller may conclude from the answer of `read_leaf`, for every line.
use Prim.Native.Nat.{ℕ}
use mathlib.Core.Path.{◌≡◌}
use mathlib.Core.Bool.{Bool}
use mathlib.Core.List.{List}
use Rattle.std.specs.Prelude.{Result, Ok}
use Rattle.meaning.specs.Name.{Name}
use Rattle.meaning.specs.ReadCondition.{read_leaf}
use Rattle.theory.specs.Papers.Conditions.{GoodLeaf, told_leaf}
use Rattle.theory.specs.Reading.Answered.{here, told_ends}
use Rattle.theory.specs.Reading.Piece.{Took, piece_took}
use Rattle.reply.specs.declared.Fault.{Fault}
use Rattle.reply.specs.Faults.{fault_of}
use Rattle.text.specs.declared.Taken.{Taken}
use Rattle.cond_value.specs.Flat.{leaf_word}
use Rattle.cond_leaf.specs.Answers.{as_leaf}

module _ (neg : Bool) (st fd : List Name) (leaves : ℕ) (s : List ℕ) (r : Result (Taken ℕ) Fault) (is : r ≡ as_leaf neg s (read_leaf st fd leaves 0 s)) where
  -- the leaf for which a word and bytes stand, behind fewer than the most
  pub leaf_got : (v : Taken ℕ) → r ≡ Ok v
      → Took (λ x n. record { value = leaf_word neg x; bytes = n }) here (λ x n. GoodLeaf st fd leaves x) (read_leaf st fd leaves) s v
  leaf_got v told = piece_took (λ x n. record { value = leaf_word neg x; bytes = n }) fault_of (told_ends (told_leaf st fd leaves s)) r is v told
