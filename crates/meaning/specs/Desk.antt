-- The desk program: what it prints for the whole of its input.
use Rattle.std.specs.Prelude.{ℕ, suc, Bool, true, false, ◌&&◌, cond, List, [], ◌∷◌, ◌++◌, length, take, drop, ltb, eqb}
use Rattle.meaning.specs.Text.{text, begins, joined}
use Rattle.meaning.specs.Refusal.{Answer, taken, refused, LONG}
use Rattle.meaning.specs.Limits.{desk_bytes}
use Rattle.meaning.specs.Number.{decimal}
use Rattle.meaning.specs.Sheet.{Status}
use Rattle.meaning.specs.Write.{line}
use Rattle.meaning.specs.Doors.{Case, read_case, next, outlook}

-- the length of the first line with its LF
unfoldable pub line_length : List ℕ → ℕ
line_length [] = 0
line_length (x ∷ s) = elim (eqb x 10) [ true ↦ 1 | false ↦ suc (line_length s) ]

-- "up to and with the first line that begins `end=`"; "Where such a line is missing, that paper takes all that is left and the later ones are empty";
-- `starts`: a line starts here
unfoldable pub paper_length : Bool → List ℕ → ℕ
paper_length starts [] = 0
paper_length starts (x ∷ s) =
    elim (starts && begins (text "end=") (x ∷ s)) [ true ↦ line_length (x ∷ s) | false ↦ suc (paper_length (eqb x 10) s) ]

-- the first paper of the input: "It reads the sheet up to and with the first line that begins `end=`, the card up to and with the next such line, and takes
-- the rest as the event"
unfoldable pub first_paper : List ℕ → List ℕ
first_paper s = take (paper_length true s) s

-- what is behind it: "It reads the sheet up to and with the first line that begins `end=`, the card up to and with the next such line, and takes the rest as
-- the event"
unfoldable pub after_paper : List ℕ → List ℕ
after_paper s = drop (paper_length true s) s

-- "`refused=NUMBER PAPER LINE`"
unfoldable pub refusal_text : ℕ → ℕ → ℕ → List ℕ
refusal_text n p l = line (text "refused") (decimal n ++ text " " ++ decimal p ++ text " " ++ decimal l)

-- "It prints `refused=NUMBER PAPER LINE`, or" what a program makes of what was taken
abbrev pub or_refusal : {A : Type 0} → (A → List ℕ) → Answer A → List ℕ
or_refusal print (taken a) = print a
or_refusal print (refused n p l) = refusal_text n p l

-- "a line `start=NAME` for each task"
unfoldable pub start_lines : List Status → List Bool → List ℕ
start_lines [] bs = []
start_lines (s ∷ ss) [] = []
start_lines (s ∷ ss) (true ∷ bs) = line (text "start") s.name ++ start_lines ss bs
start_lines (s ∷ ss) (false ∷ bs) = start_lines ss bs

-- "a line `outlook=PATTERN` for each pattern, or `outlook=refused` if MANY"
unfoldable pub outlook_lines : Answer (List ℕ) → List ℕ
outlook_lines (taken ps) = joined (λ p. line (text "outlook") (decimal p)) ps
outlook_lines (refused n p l) = line (text "outlook") (text "refused")

-- for the papers read: "It prints `refused=NUMBER PAPER LINE`, or the next card, a line `start=NAME` for each task, and a line `outlook=PATTERN` for each
-- pattern, or `outlook=refused` if MANY"
unfoldable pub printed : Answer Case → List ℕ
printed x = or_refusal (λ c. (next c).card ++ start_lines c.sheet.heads.stages (next c).tasks ++ outlook_lines (outlook c)) x

-- "It reads the sheet up to and with the first line that begins `end=`, the card up to and with the next such line, and takes the rest as the event"; "Over
-- 34,304 bytes: LONG, paper 0, line 0"; what is printed for the papers is the program's
abbrev pub on_papers : (List ℕ → List ℕ → List ℕ → List ℕ) → List ℕ → List ℕ
on_papers print input =
    let rest = after_paper input in
    cond (ltb desk_bytes (length input)) (refusal_text LONG 0 0) (print (first_paper input) (first_paper rest) (after_paper rest))

-- for the whole input: "It prints `refused=NUMBER PAPER LINE`, or the next card, a line `start=NAME` for each task, and a line `outlook=PATTERN` for each
-- pattern, or `outlook=refused` if MANY"
unfoldable pub desk_output : List ℕ → List ℕ
desk_output input = on_papers (λ sheet card event. printed (read_case sheet card event)) input
