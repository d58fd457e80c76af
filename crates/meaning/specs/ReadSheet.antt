-- Reading the sheet: "Lines of key=value, each ended by LF, in this order".
use Rattle.std.specs.Prelude.{ℕ, zero, suc, ◌-◌, Bool, false, not, List, [], ◌∷◌, ◌++◌, length}
use Rattle.std.proofs.Math.Option.{Option, none, some}
use Rattle.meaning.specs.Text.{text, is_in}
use Rattle.meaning.specs.Refusal.{LINE, NAME, COND, FULL}
use Rattle.meaning.specs.Limits.{field_limit, event_limit, status_limit, rule_limit}
use Rattle.meaning.specs.Reading.{Reader, ◌>>=◌, ◌>>◌, give, refuse, demand, choose, stands, due, Word, one_of, line_end}
use Rattle.meaning.specs.Name.{Name, name, new_name, known}
use Rattle.meaning.specs.Number.{end_line}
use Rattle.meaning.specs.Condition.{Cond}
use Rattle.meaning.specs.ReadCondition.{condition}
use Rattle.meaning.specs.Sheet.{Heads, Sheet, Status, Sign, plus, minus, Trigger, always, event, rise, fall, Rule, event_names, status_names, statuses, all_names, headed, with_field, with_event, with_stage, with_mile, leaves}

-- a section: lines that begin with its key, at most `room`; each goes on from what was read above it. FULL is "told as soon as its key is read, for a leaf
-- its name (a wrong name gives 3 first)"
unfoldable pub section : {A : Type 0} → List ℕ → (A → Reader A) → ℕ → A → Reader A
section key row zero so = do
  more ← stands key
  choose more (refuse FULL) (give so)
section key row (suc room) so = do
  more ← stands key
  choose more (row so >>= section key row room) (give so)

-- THE LINES above the rules: what stands behind the key, where `hd` was read above; it is read on by that line

-- "`field=NAME`, 0 to 16"; "Names of fields, events, stages and miles all differ; the model's name may equal one of them"
unfoldable pub field_row : Heads → Reader Heads
field_row hd = do
  n ← new_name (all_names hd)
  line_end LINE
  give (with_field hd n)

-- what ends an event's line: "each field it carries after one space"; "An event names a field once at most", so m above their number is never used up
unfoldable pub carried : List Name → ℕ → List ℕ → Reader (List ℕ)
carried fields zero so = refuse NAME
carried fields (suc m) so = do
  more ← stands (text " ")
  choose more
      (do
        f ← known fields
        demand NAME (not (is_in f so))
        carried fields m (so ++ (f ∷ [])))
      (do
        line_end LINE
        give so)

-- "`event=NAME`, then each field it carries"
unfoldable pub event_row : Heads → Reader Heads
event_row hd = do
  n ← new_name (all_names hd)
  fs ← carried hd.fields (suc (length hd.fields)) []
  give (with_event hd (record { name = n; carries = fs }))

-- what ends a status's line: a space and one of the stages, or nothing
unfoldable pub under : List Name → Reader (Option ℕ)
under stages = do
  more ← stands (text " ")
  p ← choose more (known stages >>= λ i. give (some i)) (give none)
  line_end LINE
  give p

-- a new name, or with one of the stages, as in "`stage=NAME`, or with an earlier stage as parent" and "`mile=NAME`, or with a home stage"; "Names of fields,
-- events, stages and miles all differ; the model's name may equal one of them"
unfoldable pub status : Heads → Reader Status
status hd = do
  n ← new_name (all_names hd)
  p ← under (status_names hd.stages)
  give (record { name = n; under = p })

-- THE SECTIONS above the rules, each from what was read before it

-- "`model=NAME`, once"
unfoldable pub model_line : Reader Heads
model_line = do
  due LINE (text "model=")
  m ← name
  line_end LINE
  give (headed m)

-- "`field=NAME`, 0 to 16"
abbrev pub field_lines : Heads → Reader Heads
field_lines = section (text "field=") field_row field_limit

-- "`event=NAME`, then each field it carries after one space, 0 to 16 lines"
abbrev pub event_lines : Heads → Reader Heads
event_lines = section (text "event=") event_row event_limit

-- "Stages and miles together: 0 to 32": lines with this key, whose statuses are put there
abbrev pub status_lines : List ℕ → (Heads → Status → Heads) → Heads → Reader Heads
status_lines key put hd = section key (λ hd. status hd >>= λ x. give (put hd x)) (status_limit - length (statuses hd)) hd

-- "`stage=NAME`, or with an earlier stage as parent"
abbrev pub stage_lines : Heads → Reader Heads
stage_lines = status_lines (text "stage=") with_stage

-- "`mile=NAME`, or with a home stage"
abbrev pub mile_lines : Heads → Reader Heads
mile_lines = status_lines (text "mile=") with_mile

-- what stands above the rules
unfoldable pub heads : Reader Heads
heads = do
  hd ← model_line
  hd ← field_lines hd
  hd ← event_lines hd
  hd ← stage_lines hd
  mile_lines hd

-- THE RULES

-- "`+` or `-`"
abbrev pub signs : List (Word Sign)
signs = record { spelled = text "+"; means = plus } ∷ record { spelled = text "-"; means = minus } ∷ []

-- an event as a trigger
unfoldable pub event_trigger : List Name → Reader Trigger
event_trigger events = known events >>= λ e. give (event e)

-- "A trigger is an event, or `+` or `-` and a status"
unfoldable pub trigger : List Name → List Name → Reader Trigger
trigger events statuses = do
  rises ← stands (text "+")
  choose rises (known statuses >>= λ x. give (rise x)) do
    falls ← stands (text "-")
    choose falls (known statuses >>= λ x. give (fall x)) (event_trigger events)

-- how a rule's line begins: its sign, status and trigger, and whether ` on ` stands there
pub record Begun : Type 0 where
  pub sign : Sign
  pub status : ℕ
  pub trigger : Trigger
  pub on : Bool

-- "`+` or `-`, a status"
unfoldable pub change : List Name → Reader Begun
change statuses = do
  g ← one_of LINE signs
  x ← known statuses
  give (record { sign = g; status = x; trigger = always; on = false })

-- "then ` on TRIGGER`"
unfoldable pub begun : List Name → List Name → Reader Begun
begun events statuses = do
  b ← change statuses
  on ← stands (text " on ")
  t ← choose on (trigger events statuses) (give always)
  give (record { sign = b.sign; status = b.status; trigger = t; on = on })

-- the end of a line without ` if `: "at least one", so ` on ` stands in it
unfoldable pub plain_end : Bool → Reader (Option Cond)
plain_end on = do
  demand LINE on
  line_end LINE
  give none

-- its end behind ` if `, where the conditions above it have l leaves; the end of the line too: "Inside a condition wrong names give 3 and numbers 4, the rest
-- 5"
unfoldable pub asked_end : List Name → List Name → ℕ → Reader (Option Cond)
asked_end fields statuses l = do
  c ← condition statuses fields l
  line_end COND
  give (some c)

-- "` if CONDITION`", or without it
unfoldable pub ending : List Name → List Name → Bool → ℕ → Reader (Option Cond)
ending fields statuses on l = do
  asks ← stands (text " if ")
  choose asks (asked_end fields statuses l) (plain_end on)

-- "`rule=`, then `+` or `-`, a status (a stage or mile), then ` on TRIGGER`, ` if CONDITION` or both in this order; at least one. 0 to 128"
unfoldable pub rule : List Name → List Name → List Name → ℕ → Reader Rule
rule fields events statuses l = do
  b ← begun events statuses
  c ← ending fields statuses b.on l
  give (record { sign = b.sign; status = b.status; trigger = b.trigger; condition = c })

-- a rule more
unfoldable pub rule_row : List Name → List Name → List Name → List Rule → Reader (List Rule)
rule_row fields events statuses so = do
  r ← rule fields events statuses (length (leaves so))
  give (so ++ (r ∷ []))

-- the rules, "`rule=` .. 0 to 128", and "`end=N`, N the number of rule lines; nothing after it"
unfoldable pub rules_of : List Name → List Name → List Name → Reader (List Rule)
rules_of fields events statuses = do
  rules ← section (text "rule=") (rule_row fields events statuses) rule_limit []
  end_line (length rules)
  give rules

-- the whole sheet: "Lines of key=value, each ended by LF, in this order"
unfoldable pub sheet : Reader Sheet
sheet = do
  hd ← heads
  rules ← rules_of hd.fields (event_names hd.events) (status_names (statuses hd))
  give (record { heads = hd; rules = rules })
