-- What the code answers for a leaf that the meaning reads: its word, and the bytes that it took.
use Rattle.std.specs.Prelude.{ℕ, Bool, List, Result}
use Rattle.meaning.specs.Reading.{Got, Reader, ◌>>=◌, give}
use Rattle.meaning.specs.Number.{number}
use Rattle.meaning.specs.Condition.{Operator, below, at_most, equal, at_least, above, Leaf}
use Rattle.meaning.specs.ReadCondition.{operator}
use Rattle.reply.specs.declared.Fault.{Fault}
use Rattle.text.specs.declared.Taken.{Taken}
use Rattle.text.specs.Pieces.{as_taken}
use Rattle.cond_value.specs.Flat.{leaf_word}
use Rattle.cond_leaf.specs.declared.Sign.{Sign}
use Rattle.cond_leaf.specs.declared.Sign.TheVariants as S

-- an operator as the code has it
abbrev pub sign_of : Operator → Sign
sign_of below = S.Below
sign_of at_most = S.AtMost
sign_of equal = S.Equal
sign_of at_least = S.AtLeast
sign_of above = S.Above

abbrev pub operator_of : Sign → Operator
operator_of S.Below = below
operator_of S.AtMost = at_most
operator_of S.Equal = equal
operator_of S.AtLeast = at_least
operator_of S.Above = above

-- a sign, read at the start of s, and the bytes that it took
abbrev pub as_sign : List ℕ → Got Operator → Result (Taken Sign) Fault
as_sign = as_taken sign_of

-- a leaf of s, negated or not: its word, and the bytes from the start of s
abbrev pub as_leaf : Bool → List ℕ → Got Leaf → Result (Taken ℕ) Fault
as_leaf neg = as_taken (leaf_word neg)

-- what stands behind a field's name
abbrev pub comparison : ℕ → Reader Leaf
comparison f = do
  o ← operator
  n ← number
  give (Leaf.compare (record { field = f; operator = o; number = n.at }))
