-- The tests of a list: a test reads of the after side only the changes at its sources, and holds only of a change that the before side allows.
use Rattle.std.specs.Prelude.{ℕ, ◌≡◌, Bool, true, false, ◌&&◌, List, ◌++◌, eqb, get_or}
use Rattle.std.proofs.Math.Path.{refl, sym, ap}
use Rattle.std.proofs.Common.{◌∙◌, subst, inl, inr, eqb-true}
use Rattle.std.proofs.lemmas.Bool.{false≢true}
use Rattle.std.proofs.Math.Option.{Option, none, some}
use Rattle.meaning.specs.Text.{In, joined}
use Rattle.meaning.specs.Kleene.{Kleene, known₃, is_true}
use Rattle.meaning.specs.Number.{Value, missing}
use Rattle.meaning.specs.Condition.{Leaf, Cond, value_l}
use Rattle.meaning.specs.Sheet.{Trigger, always, event, rise, fall, leaves_of}
use Rattle.meaning.specs.Card.{is}
use Rattle.meaning.specs.Graph.{edge}
use Rattle.meaning.specs.Tests.{up, down, both, Test}
use Rattle.meaning.specs.Dependency.{from_trigger, from_leaf, from_home, sources, tests_for, predecessors}
use Rattle.meaning.specs.Step.{Moment, allowed, needed, triggered, fulfilled, housed, holds, some_holds, changes}
use Rattle.theory.specs.Lists.Members.{in_left, in_right, in_joined, keep_in, any_in, any_same, in_is}
use Rattle.theory.specs.Step.Values.{value_same}
use Rattle.theory.specs.Step.Sides.{changes_up, changes_down, same_status}

-- THE PARTS OF A TEST

-- a test that holds: what it says of its parts
pub record Parts (m : Moment) (after : List Bool) (t : Test) : Type 0 where
  pub may : allowed m.before t.node ≡ true
  pub trigger : triggered m after t.trigger ≡ true
  pub home : housed m after t.home ≡ true
  pub condition : fulfilled m after t.condition ≡ true

pub holds_parts : (m : Moment) (after : List Bool) (t : Test) → holds m after t ≡ true → Parts m after t
unfolding holds
holds_parts m after t h =
    let (a, c, d, e) = all (allowed m.before t.node) (needed m after t.needs) (triggered m after t.trigger) (housed m after t.home)
    (fulfilled m after t.condition) h in
    record { may = a; trigger = c; home = d; condition = e }
  where
    all : (a b c d e : Bool) → a && b && c && d && e ≡ true → (a ≡ true) × (c ≡ true) × (d ≡ true) × (e ≡ true)
    all true true true true true h = (refl, refl, refl, refl)
    all true true true true false h = absurd (false≢true h)
    all true true true false e h = absurd (false≢true h)
    all true true false d e h = absurd (false≢true h)
    all true false c d e h = absurd (false≢true h)
    all false b c d e h = absurd (false≢true h)

-- WHAT A TEST READS, on two after sides

module _ (m : Moment) (c d : List Bool) where
  -- the sides show the same changes at the nodes
  abbrev Agree : List ℕ → Type 0
  Agree ps = (p : ℕ) → In p ps → changes m.before c p ≡ changes m.before d p

  -- so a status is the same on both
  same_at : (x : ℕ) → Agree (both x) → is c x ≡ is d x
  same_at x a = same_status m.before c d x (a (up x) (inl refl)) (a (down x) (inr (inl refl)))

  -- and so is what a trigger answers,
  same_trigger : (t : Trigger) → Agree (from_trigger t) → triggered m c t ≡ triggered m d t
  unfolding triggered from_trigger
  same_trigger always a = refl
  same_trigger (event e) a = refl
  same_trigger (rise y) a = sym (changes_up m.before c y) ∙ a (up y) (inl refl) ∙ changes_up m.before d y
  same_trigger (fall y) a = sym (changes_down m.before c y) ∙ a (down y) (inl refl) ∙ changes_down m.before d y

  -- a parent or home,
  same_home : (h : Option ℕ) → Agree (from_home h) → housed m c h ≡ housed m d h
  unfolding housed from_home
  same_home none a = refl
  same_home (some p) a = same_at p a

  -- the statuses of a side, and the fields, as a condition reads them
  abbrev status_of : List Bool → ℕ → Kleene
  status_of side x = known₃ (is side x)

  abbrev field_of : ℕ → Value
  field_of f = get_or m.values f missing

  -- a leaf,
  same_leaf : (x : Leaf) → Agree (from_leaf x) → value_l (status_of c) field_of x ≡ value_l (status_of d) field_of x
  unfolding value_l from_leaf
  same_leaf (Leaf.status x) a = ap known₃ (same_at x a)
  same_leaf (Leaf.compare k) a = refl

  -- the sides show the same changes at what the leaves read
  abbrev AtLeaves : List Leaf → Type 0
  AtLeaves xs = (x : Leaf) → In x xs → Agree (from_leaf x)

  -- and a condition, if any
  same_fulfilled : (e : Option Cond) → AtLeaves (leaves_of e) → fulfilled m c e ≡ fulfilled m d e
  unfolding fulfilled leaves_of
  same_fulfilled none h = refl
  same_fulfilled (some e) h = ap is_true (value_same (status_of c) (status_of d) field_of field_of e (λ x i. same_leaf x (h x i)))

  -- what must have been so before is read of neither
  same_needed : (s : Option ℕ) → needed m c s ≡ needed m d s
  unfolding needed
  same_needed none = refl
  same_needed (some s) = refl

  -- a test answers the same on two sides that show the same changes at its sources
  pub test_sees : (t : Test) → ((p : ℕ) → In p (sources t) → changes m.before c p ≡ changes m.before d p) → holds m c t ≡ holds m d t
  unfolding holds sources
  test_sees t a =
      let f = from_trigger t.trigger in
      let k = joined from_leaf (leaves_of t.condition) in
      let h = from_home t.home in
      rw (
        same_needed t.needs,
        same_trigger t.trigger (λ p i. a p (in_left p (f ++ k) h (in_left p f k i))),
        same_home t.home (λ p i. a p (in_right p (f ++ k) h i)),
        same_fulfilled t.condition (λ x j p i. a p (in_left p (f ++ k) h (in_right p f k (in_joined from_leaf x p (leaves_of t.condition) j i)))),
      )

-- the sources of a test of a node are predecessors of the node
pub source_precedes : (ts : List Test) (k : ℕ) (t : Test) → In t (tests_for ts k) → (p : ℕ) → In p (sources t) → edge (predecessors ts) p k ≡ true
unfolding edge predecessors
source_precedes ts k t i p h = in_is p (predecessors ts k) (in_joined sources t p (tests_for ts k) i h)

-- a node's tests answer the same on two sides that show the same changes at its predecessors
pub sees : (ts : List Test) (m : Moment) (k : ℕ) (c d : List Bool)
    → ((p : ℕ) → edge (predecessors ts) p k ≡ true → changes m.before c p ≡ changes m.before d p)
    → some_holds m c ts k ≡ some_holds m d ts k
unfolding some_holds
sees ts m k c d a = any_same (holds m c) (holds m d) (tests_for ts k) (λ t i. test_sees m c d t (λ p h. a p (source_precedes ts k t i p h)))

-- WHEN A TEST MAY HOLD

-- a test of a node is one of the list, with that node
pub test_of_lem : (ts : List Test) (k : ℕ) (t : Test) → In t (tests_for ts k) → In t ts × (t.node ≡ k)
unfolding tests_for
test_of_lem ts k t i = let (j, e) = keep_in (λ (t : Test). eqb t.node k) t ts i in (j, eqb-true t.node k e)

-- a node whose tests hold is one whose change the before side allows
pub gate : (ts : List Test) (m : Moment) (c : List Bool) (k : ℕ) → some_holds m c ts k ≡ true → allowed m.before k ≡ true
unfolding some_holds
gate ts m c k h =
    let (t, i, g) = any_in (holds m c) (tests_for ts k) h in
    subst (λ w. allowed m.before w ≡ true) (test_of_lem ts k t i).1 (holds_parts m c t g).may
