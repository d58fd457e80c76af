-- The card and the event line: what they hold, and how they are read.
use Rattle.std.specs.Prelude.{ℕ, suc, ◌+◌, Bool, true, false, not, ◌&&◌, List, [], ◌∷◌, length, get_or}
use Rattle.std.proofs.Math.Option.{Option, none, some}
use Rattle.meaning.specs.Text.{text}
use Rattle.meaning.specs.Refusal.{Answer, taken, refused, LINE, ORPHAN, on_taken}
use Rattle.meaning.specs.Limits.{card_bytes, event_bytes}
use Rattle.meaning.specs.Reading.{Reader, ◌>>=◌, ◌>>◌, give, due, each, Word, one_of, line_end, closed, paper}
use Rattle.meaning.specs.Name.{Name, due_name, known}
use Rattle.meaning.specs.Number.{Entry, entry, end_line}
use Rattle.meaning.specs.Sheet.{Heads, Status, status_names, statuses, event_names}

-- the fields in sheet order; "each stage, then each mile", yes or no; "`?` is for fields only; a status is never missing"
pub record Card : Type 0 where
  pub entries : List Entry
  pub statuses : List Bool

-- a status of a side, by its place
abbrev pub is : List Bool → ℕ → Bool
is side x = get_or side x false

-- "`NAME=`"
unfoldable pub keyed : Name → Reader (Unit {0})
keyed n = do
  due_name n
  due LINE (text "=")

-- "`NAME=` and a number or `?`"
unfoldable pub field_entry : Name → Reader Entry
field_entry n = do
  keyed n
  entry

-- the words of a status; "`?` is for fields only; a status is never missing"
abbrev pub marks : List (Word Bool)
marks = record { spelled = text "yes"; means = true } ∷ record { spelled = text "no"; means = false } ∷ []

-- "`NAME=yes` or `NAME=no`"
unfoldable pub status_mark : Name → Reader Bool
status_mark n = do
  keyed n
  one_of LINE marks

-- a line of the card
unfoldable pub ended : {A : Type 0} → Reader A → Reader A
ended r = do
  a ← r
  line_end LINE
  give a

-- "`case=` and the model's name"
unfoldable pub case_line : Name → Reader (Unit {0})
case_line n = do
  due LINE (text "case=")
  ended (due_name n)

-- "The card: `case=` and the model's name; each field in sheet order as `NAME=` and a number or `?`; each stage, then each mile, as `NAME=yes` or `NAME=no`;
-- `end=N`, N the number of lines between first and last"
unfoldable pub card : Heads → Reader Card
card hd = do
  case_line hd.model
  es ← each (λ n. ended (field_entry n)) hd.fields
  ss ← each (λ n. ended (status_mark n)) (status_names (statuses hd))
  end_line (length es + length ss)
  give (record { entries = es; statuses = ss })

-- the number of a field's line, by the field's place: behind the first line
abbrev pub field_line : ℕ → ℕ
field_line i = 2 + i

-- the number of a status's line, by the status's place: behind so many fields
abbrev pub mark_line : ℕ → ℕ → ℕ
mark_line fields x = field_line fields + x

-- its "parent is no": there is one, and it is
abbrev pub shut : List Bool → Option ℕ → Bool
shut side none = false
shut side (some p) = not (is side p)

-- "No stage may be yes while its parent is no": the first that is, of the stages from place x on
unfoldable pub orphan : List Bool → ℕ → List Status → Option ℕ
orphan side x [] = none
orphan side x (s ∷ ss) = elim (is side x && shut side s.under) [ true ↦ some x | false ↦ orphan side (suc x) ss ]

-- "No stage may be yes while its parent is no": ORPHAN, with the "line of the first such stage"
abbrev pub sheltered : Heads → Card → Option ℕ → Answer Card
sheltered hd c none = taken c
sheltered hd c (some x) = refused ORPHAN 2 (mark_line (length hd.fields) x)

-- the card as a paper: "Within a paper: LONG, then the first line at fault, then CYCLE or ORPHAN"
unfoldable pub read_card : Heads → List ℕ → Answer Card
read_card hd s = on_taken (paper 2 card_bytes (card hd) s) (λ c. sheltered hd c (orphan c.statuses 0 hd.stages))

-- a field, by its place, and what is put into it
pub record Put : Type 0 where
  pub field : ℕ
  pub entry : Entry

-- an event line: the event by its place, and what it puts in
pub record Happening : Type 0 where
  pub event : ℕ
  pub puts : List Put

-- the fields that the event at this place carries
unfoldable pub carried_by : Heads → ℕ → List ℕ
carried_by hd i = (get_or hd.events i (record { name = []; carries = [] })).carries

-- "a space and `FIELD=` and a number or `?`"
unfoldable pub spaced : Name → Reader Entry
spaced n = do
  due LINE (text " ")
  field_entry n

-- what the event line puts into the field at this place
unfoldable pub put : Heads → ℕ → Reader Put
put hd f = do
  e ← spaced (get_or hd.fields f [])
  give (record { field = f; entry = e })

-- "The event line: the event's name, then for each field it carries, in the order its `event=` line names them, a space and `FIELD=` and a number or `?`,
-- then LF"
unfoldable pub happening : Heads → Reader Happening
happening hd = do
  i ← known (event_names hd.events)
  ps ← each (put hd) (carried_by hd i)
  closed
  give (record { event = i; puts = ps })

-- the event line as a paper: "Within a paper: LONG, then the first line at fault, then CYCLE or ORPHAN", of which it has neither
unfoldable pub read_event : Heads → List ℕ → Answer Happening
read_event hd s = paper 3 event_bytes (happening hd) s
