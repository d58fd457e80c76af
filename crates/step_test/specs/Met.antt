-- A test on the tables of a sheet and the marks of the statuses before and after.
use Rattle.std.specs.Prelude.{ℕ, zero, suc, ◌-◌, Bool, true, not, ◌&&◌, cond, List, Option, Some, None, eqb, take, drop}
use Rattle.meaning.specs.Kleene.{true₃, unknown}
use Rattle.marks.specs.Codes.{code, is_yes, yes_at}
use Rattle.cond_value.specs.Machine.{verdict_of}
use Rattle.sheet_tables.specs.declared.Trigger.{Trigger}
use Rattle.sheet_tables.specs.declared.Trigger.TheVariants.{Always, Event, Rise, Fall}
use Rattle.graph_tests.specs.declared.Test.{Test}
use Rattle.step_test.specs.declared.Moment.{Moment}
use Rattle.step_test.specs.declared.Stop.{Stop}
use Rattle.step_test.specs.declared.Stop.TheVariants.{TriggerNotMet, HomeNotOpen, ConditionFalse, ConditionUnknown}

-- a status rose,
abbrev pub rose_in : List ℕ → List ℕ → ℕ → Bool
rose_in before after x = not (yes_at before x) && yes_at after x

-- it fell
abbrev pub fell_in : List ℕ → List ℕ → ℕ → Bool
fell_in before after x = yes_at before x && not (yes_at after x)

-- the trigger of a test: none, the event, or a change
abbrev pub trigger_met : ℕ → List ℕ → List ℕ → Trigger → Bool
trigger_met event before after Always = true
trigger_met event before after (Event e) = eqb e event
trigger_met event before after (Rise y) = rose_in before after y
trigger_met event before after (Fall y) = fell_in before after y

-- the stage that is asked for, if any, is yes
abbrev pub home_met : List ℕ → ℕ → Bool
home_met after zero = true
home_met after (suc p) = yes_at after p

-- how the condition stands, as a mark; none is true
unfoldable pub condition_value : List ℕ → List ℕ → List ℕ → ℕ → ℕ → ℕ
condition_value words values after from to = cond (eqb from to) (code true₃) (verdict_of values after (take (to - from) (drop from words)))

-- no condition, or a true one
unfoldable pub condition_met : List ℕ → List ℕ → List ℕ → ℕ → ℕ → Bool
condition_met words values after from to = is_yes (condition_value words values after from to)

-- a test is met, but for its before test
unfoldable pub test_met : List ℕ → Moment → List ℕ → Test → Bool
test_met words m after t =
    trigger_met m.event m.before after t.trigger && home_met after t.home && condition_met words m.values after t.from t.to

-- what a condition stops a test with: nothing where it is true
abbrev pub condition_stop : ℕ → Option Stop
condition_stop v = cond (is_yes v) None (Some (cond (eqb v (code unknown)) ConditionUnknown ConditionFalse))

-- the first thing that stopped a test: its trigger, its home, then its condition; none where nothing did
unfoldable pub stop_of : List ℕ → Moment → List ℕ → Test → Option Stop
stop_of words m after t =
    cond (trigger_met m.event m.before after t.trigger)
    (cond (home_met after t.home) (condition_stop (condition_value words m.values after t.from t.to)) (Some HomeNotOpen))
    (Some TriggerNotMet)
