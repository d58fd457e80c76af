-- Names: which are good, and how a name piece is read.
use Rattle.std.specs.Prelude.{ℕ, Bool, false, not, ◌&&◌, ◌||◌, List, [], ◌∷◌, length, leb, eqb}
use Rattle.std.proofs.Math.Option.{Option, none, some}
use Rattle.meaning.specs.Text.{text, same, run, among, find}
use Rattle.meaning.specs.Refusal.{NAME}
use Rattle.meaning.specs.Limits.{name_bytes}
use Rattle.meaning.specs.Reading.{Reader, ◌>>=◌, ◌>>◌, give, refuse, demand, not_ended, longest}

-- a name is the list of its bytes
abbrev pub Name : Type 0
Name = List ℕ

-- a lower-case letter
abbrev pub letter : ℕ → Bool
letter x = leb 97 x && leb x 122

-- a digit
abbrev pub digit : ℕ → Bool
digit x = leb 48 x && leb x 57

-- "lower-case letters and digits"
abbrev pub name_byte : ℕ → Bool
name_byte x = letter x || digit x

-- "none of on, if, or, and, not, end"
abbrev pub reserved : List Name
reserved = text "on" ∷ text "if" ∷ text "or" ∷ text "and" ∷ text "not" ∷ text "end" ∷ []

-- "A name is 1 to 12 lower-case letters and digits, a letter first, and none of on, if, or, and, not, end"
unfoldable pub good_name : Name → Bool
good_name [] = false
good_name (x ∷ w) = letter x && eqb (run name_byte (x ∷ w)) (length (x ∷ w)) && leb (length (x ∷ w)) name_bytes && not (among (x ∷ w) reserved)

-- "A name piece is the longest run of lower-case letters and digits"
unfoldable pub name : Reader Name
name = do
  not_ended
  w ← longest name_byte
  demand NAME (good_name w)
  give w

-- a name that is not already used: "Names of fields, events, stages and miles all differ; the model's name may equal one of them"
unfoldable pub new_name : List Name → Reader Name
new_name used = do
  w ← name
  demand NAME (not (among w used))
  give w

-- a name that must be the one due
unfoldable pub due_name : Name → Reader (Unit {0})
due_name n = do
  w ← name
  demand NAME (same w n)

-- a place, or NAME
abbrev pub placed : Option ℕ → Reader ℕ
placed none = refuse NAME
placed (some i) = give i

-- a name of the list, as its place there; any other is unknown or of the wrong kind
unfoldable pub known : List Name → Reader ℕ
known ns = do
  w ← name
  placed (find w ns)
