-- The step, over any list of tests: when a test holds, which after sides meet the rules, what a testing order leads to, and the tasks started.
use Rattle.std.specs.Prelude.{ℕ, suc, ◌+◌, ◌*◌, ◌/◌, ◌%◌, ◌<◌, ◌≡◌, Bool, true, false, not, ◌&&◌, cond, List, [], ◌∷◌, map, length, get_or, set, eqb}
use Rattle.std.proofs.Math.Option.{Option, none, some}
use Rattle.meaning.specs.Text.{any}
use Rattle.meaning.specs.Kleene.{Kleene, true₃, known₃, is_true}
use Rattle.meaning.specs.Number.{Value, missing, Entry}
use Rattle.meaning.specs.Condition.{Cond, value_c}
use Rattle.meaning.specs.Sheet.{Status, Trigger, always, event, rise, fall}
use Rattle.meaning.specs.Card.{Card, Happening, Put, is}
use Rattle.meaning.specs.Tests.{Test}
use Rattle.meaning.specs.Dependency.{tests_for}

-- what a step starts from, the event, the field values after it, the statuses before it: "'Before' is the card given. 'After' has the event's values put in,
-- and the new statuses"
pub record Moment : Type 0 where
  pub event : ℕ
  pub values : List Value
  pub before : List Bool

-- "the event's values put in": value and text. "In the next card, a field's value text is that of the event line if the event carries it, otherwise that of
-- the card"; "`?` takes away an older value"
unfoldable pub put_in : List Put → List Entry → List Entry
put_in [] es = es
put_in (p ∷ ps) es = put_in ps (set es p.field p.entry)

-- the moment of a card and an event line: "'Before' is the card given. 'After' has the event's values put in, and the new statuses"
unfoldable pub moment : Card → Happening → Moment
moment c h = record { event = h.event; values = map (λ e. e.value) (put_in h.puts c.entries); before = c.statuses }

-- WHAT IS MEANT

-- "`+x` means x no before and yes after; `-x` the reverse"
abbrev pub rose : List Bool → List Bool → ℕ → Bool
rose before after x = not (is before x) && is after x

-- "`+x` means x no before and yes after; `-x` the reverse": the second
abbrev pub fell : List Bool → List Bool → ℕ → Bool
fell before after x = is before x && not (is after x)

-- the node is one of the nodes `+x`
unfoldable pub rising : ℕ → Bool
rising k = eqb (k % 2) 0

-- "a `+` rule: its status was no before; a `-` rule: it was yes before"
unfoldable pub allowed : List Bool → ℕ → Bool
allowed before k = cond (rising k) (not (is before (k / 2))) (is before (k / 2))

module _ (m : Moment) (after : List Bool) where
  -- a stage that must have been yes before, if any
  unfoldable pub needed : Option ℕ → Bool
  needed none = true
  needed (some s) = is m.before s

  -- "its trigger, if any: the event is this one; `+x` means x no before and yes after; `-x` the reverse"
  unfoldable pub triggered : Trigger → Bool
  triggered always = true
  triggered (event e) = eqb e m.event
  triggered (rise y) = rose m.before after y
  triggered (fall y) = fell m.before after y

  -- "a `+` rule whose status has a parent or home: that stage is yes after"
  unfoldable pub housed : Option ℕ → Bool
  housed none = true
  housed (some p) = is after p

  -- "Conditions are read on the after side": how "its condition, if any" stands; none is true
  abbrev pub condition_on : Option Cond → Kleene
  condition_on none = true₃
  condition_on (some c) = value_c (λ x. known₃ (is after x)) (λ f. get_or m.values f missing) c

  -- "its condition, if any, is true (not unknown)"
  unfoldable pub fulfilled : Option Cond → Bool
  fulfilled c = is_true (condition_on c)

  -- "A rule holds when all of these do"
  unfoldable pub holds : Test → Bool
  holds t = allowed m.before t.node && needed t.needs && triggered t.trigger && housed t.home && fulfilled t.condition

  -- "some rule for that change holds": some test of the node k does
  unfoldable pub some_holds : List Test → ℕ → Bool
  some_holds ts k = any holds (tests_for ts k)

-- "A status changes": of `+x` from no to yes, of `-x` from yes to no
unfoldable pub changes : List Bool → List Bool → ℕ → Bool
changes before after k = cond (rising k) (rose before after (k / 2)) (fell before after (k / 2))

-- "A status changes exactly when some rule for that change holds"
pub record Meets (ts : List Test) (m : Moment) (after : List Bool) : Type 0 where
  pub long : length after ≡ length m.before
  pub exactly : (k : ℕ) → k < length m.before * 2 → changes m.before after k ≡ some_holds m after ts k

-- HOW IT IS COMPUTED: what a list of nodes leads to, on the card half made

-- "sets the status at once if one holds"
unfoldable pub set_if : Bool → ℕ → List Bool → List Bool
set_if true k half = set half (k / 2) (rising k)
set_if false k half = half

-- "at each node it tests that node's rules, the implied one too, with the after side read on the card half made so far and the before side on the card given,
-- and sets the status at once if one holds"
unfoldable pub run_on : (List Bool → ℕ → Bool) → List ℕ → List Bool → List Bool
run_on test [] half = half
run_on test (k ∷ o) half = run_on test o (set_if (test half k) k half)

-- "It starts with the before statuses; at each node it tests that node's rules"; "What stands at the end is the card it leads to"
unfoldable pub leads_to : List Test → Moment → List ℕ → List Bool
leads_to ts m o = run_on (λ half. some_holds m half ts) o m.before

-- THE TASKS STARTED, AND A SIDE AS A PATTERN

-- this is stage x
abbrev pub within : ℕ → Option ℕ → Bool
within x none = false
within x (some p) = eqb p x

-- "no child stage"
unfoldable pub childless : List Status → ℕ → Bool
childless ss x = not (any (λ s. within x s.under) ss)

-- "Tasks started: stages that have no child stage and turned yes, in sheet order", yes or no for each of the stages from place x on
unfoldable pub started_from : List Status → List Bool → List Bool → ℕ → List Status → List Bool
started_from stages before after x [] = []
started_from stages before after x (s ∷ ss) = (childless stages x && rose before after x) ∷ started_from stages before after (suc x) ss

-- "Tasks started: stages that have no child stage and turned yes, in sheet order", yes or no for each stage
unfoldable pub started : List Status → List Bool → List Bool → List Bool
started stages before after = started_from stages before after 0 stages

-- "Each filling has one next pattern: bit i of a 32-bit number is status i, stages first, then miles, from bit 0"
unfoldable pub pattern : List Bool → ℕ
pattern [] = 0
pattern (true ∷ bs) = 1 + 2 * pattern bs
pattern (false ∷ bs) = 2 * pattern bs
