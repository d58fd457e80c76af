-- What a test reads of a moment: the codes of its values and the marks of its statuses; and what stopped it.
use Rattle.std.specs.Prelude.{Option, Some, None}
use Rattle.std.proofs.Math.Option as Math
use Rattle.meaning.specs.Step as M
use Rattle.meaning.specs.Why as W
use Rattle.marks.specs.Codes.{marked, valued}
use Rattle.step_test.specs.declared.Moment.{Moment}
use Rattle.step_test.specs.declared.Stop.{Stop}
use Rattle.step_test.specs.declared.Stop.TheVariants.{TriggerNotMet, HomeNotOpen, ConditionFalse, ConditionUnknown}

-- a moment's event, values and marks
abbrev pub as_moment : M.Moment → Moment
as_moment m = record { event = m.event; values = valued m.values; before = marked m.before }

-- what stopped a test,
abbrev pub as_stop : W.Stop → Stop
as_stop W.trigger_not_met = TriggerNotMet
as_stop W.home_not_open = HomeNotOpen
as_stop W.condition_false = ConditionFalse
as_stop W.condition_unknown = ConditionUnknown

-- if anything did
abbrev pub as_stopped : Math.Option W.Stop → Option Stop
as_stopped Math.none = None
as_stopped (Math.some w) = Some (as_stop w)
