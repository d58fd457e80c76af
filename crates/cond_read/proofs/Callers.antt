-- What a caller may conclude from the answer of `read_condition`, for every line: the condition that was read, and the lent words.
use Prim.Native.Nat.{ℕ}
use mathlib.Core.List.{List}
use Rattle.meaning.specs.Name.{Name}
use Rattle.meaning.specs.Condition.{leaves_c}
use Rattle.meaning.specs.ReadCondition.{condition}
use Rattle.theory.specs.Papers.Conditions.{Good, told_condition}
use Rattle.theory.specs.Reading.Answered.{here, Ends, told_ends}

-- a condition stays on its line, and its leaves are good ones
pub condition_ends : (st fd : List Name) (leaves : ℕ) (s : List ℕ) → Ends here (λ c n. Good st fd leaves (leaves_c c)) (condition st fd leaves) s
condition_ends st fd leaves s = told_ends (told_condition st fd leaves s)
