-- Why a status changed, or did not (request T-01): on the card after the step, the line that held or the parent that closed; otherwise what stopped each line.
use Rattle.std.specs.Prelude.{ℕ, ◌+◌, ◌*◌, ◌<◌, ◌≡◌, Bool, true, false, cond, List, [], ◌∷◌, ◌++◌, map, ◌↔◌, length, get_or}
use Rattle.std.proofs.Math.Option.{Option, none, some}
use Rattle.meaning.specs.Text.{In, joined, from}
use Rattle.meaning.specs.Kleene.{Kleene, true₃, false₃, unknown, known₃}
use Rattle.meaning.specs.Sheet.{Sheet, stage_over}
use Rattle.meaning.specs.Card.{is}
use Rattle.meaning.specs.Tests.{up, down, Test, rule_tests, rule_line, status_line}
use Rattle.meaning.specs.Dependency.{tests_for}
use Rattle.meaning.specs.Step.{Moment, fell, triggered, housed, condition_on, holds, changes}

-- WHAT IS TOLD

-- "with the first thing that stopped it: the trigger, the home stage, a false condition, or an unknown one"
pub data Stop : Type 0 where
  trigger_not_met home_not_open condition_false condition_unknown : Stop

-- "the first rule line that held", "or, where no line held, the parent whose closing closed it", or "the first thing that stopped it"
pub data Kind : Type 0 where
  held closed : Kind
  stopped : Stop → Kind

-- the number of a kind, in "(status x 1000 + line) x 10 + kind"
abbrev pub kind_number : Kind → ℕ
kind_number held = 1
kind_number closed = 2
kind_number (stopped trigger_not_met) = 3
kind_number (stopped home_not_open) = 4
kind_number (stopped condition_false) = 5
kind_number (stopped condition_unknown) = 6

-- of a status, by its place: a line of the sheet, which is the rule's or that of the parent's `stage=`, and the kind; "A reason is one number: (status x 1000
-- + line) x 10 + kind"
pub record Reason : Type 0 where
  pub status : ℕ
  pub line : ℕ
  pub kind : Kind

-- "A reason is one number: (status x 1000 + line) x 10 + kind"
unfoldable pub coded : Reason → ℕ
coded r = (r.status * 1000 + r.line) * 10 + kind_number r.kind

-- THE PARTS OF A LINE

-- how a part of a line stands on the after side, and what it is told as where it is false and where it is unknown: "with the first thing that stopped it: the
-- trigger, the home stage, a false condition, or an unknown one"
pub record Part : Type 0 where
  pub value : Kleene
  pub if_false : Stop
  pub if_unknown : Stop

-- "the first thing that stopped it": what a part that is not true is told as
abbrev pub told_as : Part → Kleene → Option Stop
told_as p true₃ = none
told_as p false₃ = some p.if_false
told_as p unknown = some p.if_unknown

-- "the first thing that stopped it": the first part that is not true
unfoldable pub first_stop : List Part → Option Stop
first_stop [] = none
first_stop (p ∷ ps) = elim (told_as p p.value) [ none ↦ first_stop ps | some w ↦ some w ]

-- "the change it could have made": from yes to no, or from no to yes
abbrev pub change_of : List Bool → ℕ → ℕ
change_of before x = cond (is before x) (down x) (up x)

module _ (sh : Sheet) (m : Moment) (after : List Bool) where
  -- "with the first thing that stopped it: the trigger, the home stage, a false condition, or an unknown one": these parts in this order; only a condition
  -- can be unknown
  unfoldable pub parts_of : Test → List Part
  parts_of t =
      record { value = known₃ (triggered m after t.trigger); if_false = trigger_not_met; if_unknown = trigger_not_met }
      ∷ record { value = known₃ (housed m after t.home); if_false = home_not_open; if_unknown = home_not_open }
      ∷ record { value = condition_on m after t.condition; if_false = condition_false; if_unknown = condition_unknown }
      ∷ []

  -- "For each that did not, every rule line for the change it could have made", in sheet order
  unfoldable pub lines_for : ℕ → List Test
  lines_for x = tests_for (rule_tests sh.heads (rule_line sh.heads) sh.rules) (change_of m.before x)

  -- "For each status that changed"
  unfoldable pub changed : ℕ → Bool
  changed x = changes m.before after (change_of m.before x)

  -- WHAT IS MEANT

  -- "the first rule line that held": "the named rule holds and none earlier does, or the named part fails and those before it don't"
  pub record FirstHeld (x l : ℕ) : Type 0 where
    pub test : Test
    pub on : In test (lines_for x) × (test.line ≡ l)
    pub counts : holds m after test ≡ true
    pub none_earlier : (t : Test) → In t (lines_for x) → t.line < l → holds m after t ≡ false

  -- "or, where no line held, the parent whose closing closed it"
  pub record ClosedWith (x l : ℕ) : Type 0 where
    pub parent : ℕ
    pub over : stage_over sh.heads x ≡ some parent
    pub on : status_line sh.heads parent ≡ l
    pub fallen : fell m.before after parent ≡ true
    pub no_line : (t : Test) → In t (lines_for x) → holds m after t ≡ false

  -- "the first thing that stopped it": "the named rule holds and none earlier does, or the named part fails and those before it don't"
  pub record StoppedBy (x l : ℕ) (w : Stop) : Type 0 where
    pub test : Test
    pub on : In test (lines_for x) × (test.line ≡ l)
    pub earlier : List Part
    pub part : Part
    pub later : List Part
    pub are : parts_of test ≡ earlier ++ part ∷ later
    pub named : told_as part part.value ≡ some w
    pub all_true : (p : Part) → In p earlier → p.value ≡ true₃

  -- what is told of the status x with the line l: "the named rule holds and none earlier does, or the named part fails and those before it don't"
  abbrev pub Says : ℕ → ℕ → Kind → Type 0
  Says x l held = (changed x ≡ true) × FirstHeld x l
  Says x l closed = (changed x ≡ true) × ClosedWith x l
  Says x l (stopped w) = (changed x ≡ false) × StoppedBy x l w

  -- "The list holds, ascending, ..": what is to be told of each status, and nothing else
  pub record IsWhy (list : List Reason) : Type 0 where
    pub each : (r : Reason) → In r list ↔ ((r.status < length m.before) × Says r.status r.line r.kind)
    pub ascending : (i j : ℕ) → i < j → j < length list → get_or (map coded list) i 0 < get_or (map coded list) j 0

  -- HOW IT IS COMPUTED

  -- the first of the lines that holds: "the first rule line that held"
  unfoldable pub first_that : List Test → Option Test
  first_that [] = none
  first_that (t ∷ ts) = cond (holds m after t) (some t) (first_that ts)

  -- "or, where no line held, the parent whose closing closed it", if there is one
  abbrev pub closed_by : ℕ → Option ℕ → List Reason
  closed_by x none = []
  closed_by x (some p) = record { status = x; line = status_line sh.heads p; kind = closed } ∷ []

  -- of a status that changed: "the first rule line that held"; "or, where no line held, the parent whose closing closed it"
  abbrev pub changed_by : ℕ → Option Test → List Reason
  changed_by x none = closed_by x (stage_over sh.heads x)
  changed_by x (some t) = record { status = x; line = t.line; kind = held } ∷ []

  -- of one line of a status that did not change, "the first thing that stopped it"
  abbrev pub stopped_by : ℕ → ℕ → Option Stop → List Reason
  stopped_by x l none = []
  stopped_by x l (some w) = record { status = x; line = l; kind = stopped w } ∷ []

  -- of one status: "The list holds, ascending, .."
  unfoldable pub reasons_of : ℕ → List Reason
  reasons_of x = cond (changed x) (changed_by x (first_that (lines_for x))) (joined (λ t. stopped_by x t.line (first_stop (parts_of t))) (lines_for x))

  -- of all statuses: "The list holds, ascending, .."
  unfoldable pub reasons : List Reason
  reasons = joined reasons_of (from 0 (length m.before))
