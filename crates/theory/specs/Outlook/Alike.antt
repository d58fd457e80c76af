-- Two fillings on which every comparison of the tests answers the same lead to the same card.
use Rattle.std.specs.Prelude.{ℕ, ◌≡◌, Bool, List, [], ◌∷◌, get_or}
use Rattle.std.proofs.Math.Path.{refl, ap, ap₂}
use Rattle.std.proofs.Math.Bool.{◌&&◌}
use Rattle.std.proofs.Math.Option.{Option, none, some}
use Rattle.meaning.specs.Text.{In}
use Rattle.meaning.specs.Kleene.{known₃, is_true}
use Rattle.meaning.specs.Number.{Value, missing}
use Rattle.meaning.specs.Condition.{Comparison, Leaf, Cond, compared, value_l}
use Rattle.meaning.specs.Sheet.{Trigger, always, event, rise, fall, leaves_of}
use Rattle.meaning.specs.Card.{is}
use Rattle.meaning.specs.Tests.{Test, leaves_in}
use Rattle.meaning.specs.Dependency.{tests_for}
use Rattle.meaning.specs.Step.{Moment, allowed, needed, triggered, fulfilled, housed, holds, some_holds, set_if, run_on, leads_to}
use Rattle.meaning.specs.Outlook.{filled_with}
use Rattle.theory.specs.Lists.Members.{in_joined, any_same}
use Rattle.theory.specs.Step.Values.{value_same}
use Rattle.theory.specs.Step.Tests.{test_of_lem}

-- the leaves of a test are among those of all
test_leaves : (ts : List Test) (t : Test) → In t ts → (x : Leaf) → In x (leaves_of t.condition) → In x (leaves_in ts)
unfolding leaves_in
test_leaves ts t h x i = in_joined (λ (u : Test). leaves_of u.condition) t x ts h i

module _ (ts : List Test) (m : Moment) (v w : List Value)
    (same : (c : Comparison) → In (Leaf.compare c) (leaves_in ts)
    → compared c (get_or v c.field missing) ≡ compared c (get_or w c.field missing)) (side : List Bool) where
  alike_leaf : (x : Leaf) → In x (leaves_in ts)
      → value_l (λ y. known₃ (is side y)) (λ f. get_or v f missing) x ≡ value_l (λ y. known₃ (is side y)) (λ f. get_or w f missing) x
  unfolding value_l
  alike_leaf (Leaf.status x) i = refl
  alike_leaf (Leaf.compare c) i = same c i

  alike_fulfilled : (e : Option Cond) → ((x : Leaf) → In x (leaves_of e) → In x (leaves_in ts))
      → fulfilled (filled_with m v) side e ≡ fulfilled (filled_with m w) side e
  unfolding fulfilled leaves_of filled_with
  alike_fulfilled none h = refl
  alike_fulfilled (some e) h = ap is_true (value_same _ _ _ _ e (λ x i. alike_leaf x (h x i)))

  alike_needed : (s : Option ℕ) → needed (filled_with m v) side s ≡ needed (filled_with m w) side s
  unfolding needed filled_with
  alike_needed none = refl
  alike_needed (some s) = refl

  alike_triggered : (t : Trigger) → triggered (filled_with m v) side t ≡ triggered (filled_with m w) side t
  unfolding triggered filled_with
  alike_triggered always = refl
  alike_triggered (event e) = refl
  alike_triggered (rise y) = refl
  alike_triggered (fall y) = refl

  alike_housed : (h : Option ℕ) → housed (filled_with m v) side h ≡ housed (filled_with m w) side h
  unfolding housed
  alike_housed none = refl
  alike_housed (some p) = refl

  alike_holds : (t : Test) → In t ts → holds (filled_with m v) side t ≡ holds (filled_with m w) side t
  unfolding holds filled_with
  alike_holds t h =
      ap₂ ◌&&◌ (ap₂ ◌&&◌ (ap₂ ◌&&◌ (ap
      (λ b. allowed m.before t.node && b) (alike_needed t.needs)) (alike_triggered t.trigger)) (alike_housed t.home))
      (alike_fulfilled t.condition (test_leaves ts t h))

  -- every node's tests answer the same
  pub alike_test : (k : ℕ) → some_holds (filled_with m v) side ts k ≡ some_holds (filled_with m w) side ts k
  unfolding some_holds
  alike_test k = any_same (holds (filled_with m v) side) (holds (filled_with m w) side) (tests_for ts k) (λ t i. alike_holds t (test_of_lem ts k t i).0)

-- a run reads its test alone
run_same : (test tesu : List Bool → ℕ → Bool) → ((c : List Bool) (k : ℕ) → test c k ≡ tesu c k) → (o : List ℕ) (c : List Bool)
    → run_on test o c ≡ run_on tesu o c
unfolding run_on
run_same test tesu h [] c = refl
run_same test tesu h (k ∷ o) c = rw (h c k) (run_same test tesu h o (set_if (tesu c k) k c))

-- the pattern of a step depends on what the comparisons answer, and on nothing else of the values
pub alike_leads : (ts : List Test) (m : Moment) (v w : List Value)
    → ((c : Comparison) → In (Leaf.compare c) (leaves_in ts) → compared c (get_or v c.field missing) ≡ compared c (get_or w c.field missing))
    → (o : List ℕ) → leads_to ts (filled_with m v) o ≡ leads_to ts (filled_with m w) o
unfolding leads_to filled_with
alike_leads ts m v w same o = run_same (λ c. some_holds (filled_with m v) c ts) (λ c. some_holds (filled_with m w) c ts) (alike_test ts m v w same) o m.before
