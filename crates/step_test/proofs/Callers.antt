-- What callers use: on the marks and codes of a card, each part of a row is that part of the test for which it stands.
use Prim.Native.Nat.{ℕ, ◌-◌}
use mathlib.Core.Path.{◌≡◌, refl, sym, ap, ap₂, ◌∙◌}
use mathlib.Core.Bool.{Bool, true, false, not, ◌&&◌, cond}
use mathlib.Core.List.{List, [], ◌∷◌}
use mathlib.Core.Option.{Option, none, some}
use native.Mathlib.Omega.{arith}
use lib.Dec.{eqb}
use lib.ListN.{length, get_or, take, drop}
use borrow.Author.Tests.{eq-eqb, ne_eqb}
use Rattle.std.specs.Prelude.{Some, None, is_none}
use Rattle.meaning.specs.Kleene.{Kleene, true₃, false₃, unknown, known₃}
use Rattle.meaning.specs.Number.{missing}
use Rattle.meaning.specs.Condition.{Cond}
use Rattle.meaning.specs.Sheet as M
use Rattle.meaning.specs.Card.{is}
use Rattle.meaning.specs.Tests as T
use Rattle.meaning.specs.Step.{Moment, allowed, needed, triggered, housed, condition_on, fulfilled, holds}
use Rattle.meaning.specs.Why.{trigger_not_met, home_not_open, condition_false, condition_unknown, parts_of, first_stop}
use Rattle.marks.specs.Codes.{code, marked}
use Rattle.marks.proofs.Callers.{mark_yes, mark_known, value_at}
use Rattle.sheet_tables.specs.Heads.{under_code}
use Rattle.cond_value.specs.Machine.{verdict_of}
use Rattle.cond_value.specs.Flat.{words}
use Rattle.cond_value.specs.Fits.{Fits}
use Rattle.cond_value.proofs.Size.{words_length}
use Rattle.cond_value.proofs.Callers.{verdict_is, verdict_true}
use Rattle.sheet_tables.specs.Rules.{as_trigger, words_of}
use Rattle.graph_tests.specs.declared.Test.{Test}
use Rattle.graph_tests.specs.Answers.{Stands}
use Rattle.step_test.specs.declared.Moment as Row
use Rattle.step_test.specs.declared.Stop.{Stop}
use Rattle.step_test.specs.declared.Stop.TheVariants.{TriggerNotMet, HomeNotOpen, ConditionFalse, ConditionUnknown}
use Rattle.step_test.specs.Met.{rose_in, fell_in, trigger_met, home_met, condition_value, condition_met, test_met, condition_stop, stop_of}
use Rattle.step_test.specs.Codes.{as_moment, as_stopped}

-- the condition of a test, if any, is one that the machine values rightly
abbrev pub FitsIf : Option Cond → Type 0
FitsIf c = (d : Cond) → c ≡ some d → Fits d

-- the words of a condition are those that the machine values
words_of_lem : (c : Cond) → words_of (some c) ≡ words c
unfolding words_of
words_of_lem c = refl

-- a row is met where nothing stopped it
met_unstopped : (ws : List ℕ) (m : Row.Moment) (after : List ℕ) (r : Test) → test_met ws m after r ≡ is_none (stop_of ws m after r)
unfolding test_met condition_met stop_of
met_unstopped ws m after r =
    let v = condition_value ws m.values after r.from r.to in
    go (trigger_met m.event m.before after r.trigger) (home_met after r.home) (eqb v 2) (cond (eqb v 1) ConditionUnknown ConditionFalse)
  where
    go : (a b c : Bool) (w : Stop) → a && b && c ≡ is_none (cond a (cond b (cond c None (Some w)) (Some HomeNotOpen)) (Some TriggerNotMet))
    go false b c w = refl
    go true false c w = refl
    go true true true w = refl
    go true true false w = refl

-- A CHANGE

pub rose_same : (before after : List Bool) (x : ℕ) → rose_in (marked before) (marked after) x ≡ not (is before x) && is after x
rose_same before after x = ap₂ (λ a b. not a && b) (mark_yes before x) (mark_yes after x)

pub fell_same : (before after : List Bool) (x : ℕ) → fell_in (marked before) (marked after) x ≡ is before x && not (is after x)
fell_same before after x = ap₂ (λ a b. a && not b) (mark_yes before x) (mark_yes after x)

module _ (m : Moment) (half : List Bool) where
  -- THE PARTS

  trigger_code : (t : M.Trigger) → trigger_met m.event (marked m.before) (marked half) (as_trigger t) ≡ triggered m half t
  unfolding triggered
  trigger_code M.Trigger.always = refl
  trigger_code (M.Trigger.event e) = refl
  trigger_code (M.Trigger.rise y) = rose_same m.before half y
  trigger_code (M.Trigger.fall y) = fell_same m.before half y

  home_code : (u : Option ℕ) → home_met (marked half) (under_code u) ≡ housed m half u
  unfolding housed
  home_code none = refl
  home_code (some p) = mark_yes half p

  module _ (ws : List ℕ) (t : T.Test) (r : Test) (s : Stands ws t r) where
    pub trigger_same : trigger_met m.event (marked m.before) (marked half) r.trigger ≡ triggered m half t.trigger
    trigger_same = ap (trigger_met m.event (marked m.before) (marked half)) s.trigger ∙ trigger_code t.trigger

    pub home_same : home_met (marked half) r.home ≡ housed m half t.home
    home_same = ap (home_met (marked half)) s.home ∙ home_code t.home

    module _ (fits : FitsIf t.condition) where
      -- how the condition stands
      pub value_same : condition_value ws (as_moment m).values (marked half) r.from r.to ≡ code (condition_on m half t.condition)
      unfolding condition_value
      value_same = go t.condition refl
        where
          part : List ℕ
          part = take (r.to - r.from) (drop r.from ws)

          -- a condition has words
          asks : (c : Cond) → part ≡ words c → r.from ≡ r.to → ⊥
          asks c e z =
              let none_left : r.to - r.from ≡ 0 = omega arith in
              let short : ◌≡◌ {A = ℕ} 0 (length (words c)) = ap (λ n. length (take n (drop r.from ws))) (sym none_left) ∙ ap length e in
              omega (arith, words_length c)

          go : (c : Option Cond) → t.condition ≡ c → condition_value ws (as_moment m).values (marked half) r.from r.to ≡ code (condition_on m half c)
          go none e = rw (eq-eqb r.from r.to (s.bare e))
          go (some c) e =
              let here : part ≡ words c = s.part ∙ ap words_of e ∙ words_of_lem c in
              let v = verdict_of (as_moment m).values (marked half) part in
              rw (ne_eqb r.from r.to (asks c here))
              (verdict_is (as_moment m).values (marked half) (λ x. known₃ (is half x)) (λ f. get_or m.values f missing) (λ x h. mark_known half x)
              (λ f h. value_at m.values f) part v c refl here (fits c e))

      pub condition_same : condition_met ws (as_moment m).values (marked half) r.from r.to ≡ fulfilled m half t.condition
      unfolding condition_met fulfilled
      condition_same =
          sym (verdict_true (condition_on m half t.condition) (condition_value ws (as_moment m).values (marked half) r.from r.to) value_same)

      -- A TEST, but for the before test
      pub test_same : test_met ws (as_moment m) (marked half) r ≡ triggered m half t.trigger && housed m half t.home && fulfilled m half t.condition
      unfolding test_met
      test_same = ap₂ ◌&&◌ (ap₂ ◌&&◌ trigger_same home_same) condition_same

      -- and with it
      pub holds_same : allowed m.before t.node && test_met ws (as_moment m) (marked half) r ≡ holds m half t
      unfolding holds needed
      holds_same =
          ap (λ b. allowed m.before t.node && b) test_same
          ∙ join (allowed m.before t.node) (triggered m half t.trigger) (housed m half t.home) (fulfilled m half t.condition)
          ∙ ap (λ n. allowed m.before t.node && needed m half n && triggered m half t.trigger && housed m half t.home && fulfilled m half
          t.condition) (sym s.needs)
        where
          join : (a b c d : Bool) → a && (b && c && d) ≡ a && true && b && c && d
          join true b c d = refl
          join false b c d = refl

      -- WHAT STOPPED IT: the first of its parts that is not true
      pub stop_same : (sh : M.Sheet) → stop_of ws (as_moment m) (marked half) r ≡ as_stopped (first_stop (parts_of sh m half t))
      unfolding stop_of parts_of first_stop
      stop_same sh = rw (trigger_same, home_same, value_same) (go (triggered m half t.trigger) (housed m half t.home) (condition_on m half t.condition))
        where
          go : (a b : Bool) (v : Kleene) → cond a (cond b (condition_stop (code v)) (Some HomeNotOpen)) (Some TriggerNotMet)
              ≡ as_stopped (first_stop (record { value = known₃ a; if_false = trigger_not_met; if_unknown = trigger_not_met }
              ∷ record { value = known₃ b; if_false = home_not_open; if_unknown = home_not_open }
              ∷ record { value = v; if_false = condition_false; if_unknown = condition_unknown } ∷ []))
          go false b v = refl
          go true false v = refl
          go true true true₃ = refl
          go true true false₃ = refl
          go true true unknown = refl

      -- a test whose before test is met holds where nothing stopped it
      pub holds_unstopped : allowed m.before t.node ≡ true → holds m half t ≡ is_none (stop_of ws (as_moment m) (marked half) r)
      holds_unstopped a = sym holds_same ∙ rw a (met_unstopped ws (as_moment m) (marked half) r)
