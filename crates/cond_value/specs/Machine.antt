-- The machine that values a condition in its flat form: a stack in one number, two bits a value, the code of a mark.
use Rattle.std.specs.Prelude.{ℕ, ◌+◌, ◌-◌, ◌*◌, ◌/◌, ◌%◌, min, max, cond, List, [], ◌∷◌, eqb, ltb, get_or}
use Rattle.meaning.specs.Kleene.{unknown, known₃}
use Rattle.marks.specs.Codes.{code, mark_of}

-- what a leaf's word says, before its negation: the kind is w % 8, the place w / 8, the number w / 256
unfoldable pub raw_of : List ℕ → List ℕ → ℕ → ℕ
raw_of values marks w =
    cond (ltb (w % 8) 4)
    (code (mark_of (get_or marks (w / 8 % 32) 0)))
    (cond (eqb (get_or values (w / 8 % 16) 0) 0) (code unknown)
    (code (known₃ (cond (ltb (w % 8) 6) (ltb (get_or values (w / 8 % 16) 0) (w / 256)) (eqb (get_or values (w / 8 % 16) 0) (w / 256))))))

-- negated where the word is odd
unfoldable pub turned : ℕ → ℕ → ℕ
turned w v = cond (eqb (w % 2) 0) v (2 - v)

-- an and is the lower, an or the higher
unfoldable pub joined_of : ℕ → ℕ → ℕ → ℕ
joined_of kind a b = cond (eqb kind 0) (min a b) (max a b)

-- one word: a join takes two values from the stack and puts one there, a leaf puts one there. The stack holds 31 values
unfoldable pub step_of : List ℕ → List ℕ → ℕ → ℕ → ℕ
step_of values marks w st =
    cond (ltb (w % 8) 2)
    (st / 16 * 4 + joined_of (w % 8) (st / 4 % 4) (st % 4))
    (st % 4611686018427387904 * 4 + turned w (raw_of values marks w))

-- all words, from the first on
unfoldable pub run : List ℕ → List ℕ → List ℕ → ℕ → ℕ
run values marks [] st = st
run values marks (w ∷ ws) st = run values marks ws (step_of values marks w st)

-- the value on top at the end; no words give 0
unfoldable pub verdict_of : List ℕ → List ℕ → List ℕ → ℕ
verdict_of values marks ws = run values marks ws 0 % 4
