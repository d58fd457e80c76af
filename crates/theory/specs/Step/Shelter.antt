-- The parent rule is kept: where no stage is yes under a parent that is no, none is on a side that meets the rules.
use Rattle.std.specs.Prelude.{ℕ, zero, suc, ◌+◌, ◌≤◌, ◌<◌, ◌≡◌, Bool, ◌&&◌, List, [], ◌∷◌, get_or}
use Rattle.std.proofs.Math.Path.{refl, sym, ap₂}
use Rattle.std.proofs.Common.{◌∙◌, ap, arith, eq-eqb}
use Rattle.std.proofs.Math.Bool.{true, false, not}
use Rattle.std.proofs.lemmas.Bool.{false≢true, not-false}
use Rattle.std.proofs.Math.Option.{Option, none, some, some-ne-none, none-ne-some, some-injective}
use Rattle.std.proofs.Math.Dec.{eqb}
use Rattle.std.proofs.Math.ListN.{length}
use Rattle.meaning.specs.Text.{In}
use Rattle.meaning.specs.Sheet.{Status}
use Rattle.meaning.specs.Card.{is, shut, orphan}
use Rattle.meaning.specs.Tests.{up, down, Test, closes}
use Rattle.meaning.specs.Dependency.{tests_for}
use Rattle.meaning.specs.Step.{Moment, needed, triggered, fulfilled, housed, holds, some_holds, Meets}
use Rattle.theory.specs.Lists.Members.{in_keep, in_any, any_in}
use Rattle.theory.specs.Step.Sides.{allowed_down, changes_up, changes_down}
use Rattle.theory.specs.Step.Tests.{holds_parts, test_of_lem}

-- what is read where no status stands
abbrev pub nowhere : Status
nowhere = record { name = []; under = none }

-- ORPHANS BY THEIR PLACES

-- orphans go by what the statuses are
pub orphan_same : (a b : List Bool) → ((x : ℕ) → is a x ≡ is b x) → (x : ℕ) (ss : List Status) → orphan a x ss ≡ orphan b x ss
unfolding orphan
orphan_same a b h x [] = refl
orphan_same a b h x (s ∷ ss) = go s.under (orphan_same a b h (suc x) ss)
  where
    pick : (c : Bool) (o : Option ℕ) {p q : Option ℕ} → p ≡ q → ◌≡◌ {A = Option ℕ} (elim c [ true ↦ o | false ↦ p ]) (elim c [ true ↦ o | false ↦ q ])
    pick true o e = refl
    pick false o e = e

    go : (u : Option ℕ) → orphan a (suc x) ss ≡ orphan b (suc x) ss → ◌≡◌ {A = Option ℕ}
        (elim (is a x && shut a u) [ true ↦ some x | false ↦ orphan a (suc x) ss ]) (elim (is b x && shut b u) [ true ↦ some x | false ↦ orphan b (suc x) ss ])
    go none e = rw (h x) (pick (is b x && false) (some x) e)
    go (some p) e = rw (h x, h p) (pick (is b x && not (is b p)) (some x) e)

-- an orphan is one of the stages
pub orphan_below : (side : List Bool) (ss : List Status) (x y : ℕ) → orphan side x ss ≡ some y → y < x + length ss
unfolding orphan
orphan_below side [] x y e = absurd (none-ne-some y e)
orphan_below side (s ∷ ss) x y e = go (is side x && shut side s.under) e (orphan_below side ss (suc x) y)
  where
    go : (b : Bool) → ◌≡◌ {A = Option ℕ} (elim b [ true ↦ some x | false ↦ orphan side (suc x) ss ]) (some y)
        → (orphan side (suc x) ss ≡ some y → y < suc x + length ss) → y < x + suc (length ss)
    go true e ih = let z : x ≡ y = some-injective x y e in omega arith
    go false e ih = let z = ih e in omega arith

-- the two laws below, of the stages from place x on
none_from : (side : List Bool) (x : ℕ) (ss : List Status) → orphan side x ss ≡ none
    → (y i : ℕ) → y ≡ x + i → i < length ss → is side y && shut side (get_or ss i nowhere).under ≡ false
unfolding orphan
none_from side x [] e y i q h = absurd (omega arith)
none_from side x (s ∷ ss) e y i q h = go (is side x && shut side s.under) refl e i q h (none_from side (suc x) ss)
  where
    Rest : Type 0
    Rest = orphan side (suc x) ss ≡ none → (y i : ℕ) → y ≡ suc x + i → i < length ss → is side y && shut side (get_or ss i nowhere).under ≡ false

    go : (b : Bool) → is side x && shut side s.under ≡ b → ◌≡◌ {A = Option ℕ} (elim b [ true ↦ some x | false ↦ orphan side (suc x) ss ]) none
        → (i : ℕ) → y ≡ x + i → i < suc (length ss) → Rest → is side y && shut side (get_or (s ∷ ss) i nowhere).under ≡ false
    go true t e i q h ih = absurd (some-ne-none x e)
    go false t e zero q h ih = let z : y ≡ x = omega arith in rw z t
    go false t e (suc i) q h ih = ih e y i (omega arith) (omega arith)

from_none : (side : List Bool) (x : ℕ) (ss : List Status)
    → ((y i : ℕ) → y ≡ x + i → i < length ss → is side y && shut side (get_or ss i nowhere).under ≡ false) → orphan side x ss ≡ none
unfolding orphan
from_none side x [] f = refl
from_none side x (s ∷ ss) f =
    rw (f x 0 (omega arith) (omega arith), orphan) (from_none side (suc x) ss (λ y i q h. f y (suc i) (omega arith) (omega arith)))

-- where no orphan is found, the stage at each place is no, or has no parent that is no
pub orphan_none : (side : List Bool) (ss : List Status) → orphan side 0 ss ≡ none → (x : ℕ) → x < length ss
    → is side x && shut side (get_or ss x nowhere).under ≡ false
orphan_none side ss e x h = none_from side 0 ss e x x (omega arith) h

-- and the other way about
pub none_orphan : (side : List Bool) (ss : List Status) → ((x : ℕ) → x < length ss → is side x && shut side (get_or ss x nowhere).under ≡ false)
    → orphan side 0 ss ≡ none
none_orphan side ss f = from_none side 0 ss (λ y i q h. let z : y ≡ i = omega arith in rw z (f i h))

-- WHAT THE TESTS SAY OF A STAGE AND ITS PARENT

-- tests that guard the stages: one for `+x` asks for the parent of x, and a stage closes with its parent
pub record Guards (stages : List Status) (ts : List Test) : Type 0 where
  pub asks : (x p : ℕ) → x < length stages → (get_or stages x nowhere).under ≡ some p → (t : Test) → In t ts → t.node ≡ up x → t.home ≡ some p
  pub shut : (x p : ℕ) → x < length stages → (get_or stages x nowhere).under ≡ some p → In (closes x p) ts

module _ (stages : List Status) (ts : List Test) (guards : Guards stages ts) (m : Moment) (after : List Bool) where
  -- the implied test of a stage that was yes holds where its parent goes from yes to no
  shuts : (x p : ℕ) → is m.before x ≡ true → is m.before p ≡ true → is after p ≡ false → holds m after (closes x p) ≡ true
  unfolding holds needed triggered fulfilled housed
  shuts x p b q a = rw (allowed_down m.before x, b, q, a)

  -- so `-x` holds then
  closed : (x p : ℕ) → x < length stages → (get_or stages x nowhere).under ≡ some p
      → is m.before x ≡ true → is m.before p ≡ true → is after p ≡ false → some_holds m after ts (down x) ≡ true
  unfolding some_holds tests_for
  closed x p h u b q a =
      let i : In (closes x p) (tests_for ts (down x)) = in_keep (λ (t : Test). eqb t.node (down x)) (closes x p) ts (guards.shut x p h u)
      (eq-eqb (down x) (down x) refl) in
      in_any (holds m after) (closes x p) (tests_for ts (down x)) i (shuts x p b q a)

  -- no stage is yes after under a parent that is no
  pub stays_sheltered : length stages ≤ length m.before → orphan m.before 0 stages ≡ none → Meets ts m after → orphan after 0 stages ≡ none
  unfolding some_holds housed
  stays_sheltered few sound meets = none_orphan after stages (λ x h. at x h (get_or stages x nowhere).under refl (is after x) refl)
    where
      was_no : (x p : ℕ) → x < length stages → (get_or stages x nowhere).under ≡ some p → is after x ≡ true → is m.before x ≡ false → is after p ≡ true
      was_no x p h u a b =
          let t : some_holds m after ts (up x) ≡ true = sym (meets.exactly (up x) (omega arith)) ∙ changes_up m.before after x ∙ ap₂
          (λ v w. not v && w) b a in
          let (r, k, g) = any_in (holds m after) (tests_for ts (up x)) t in
          let (i, e) = test_of_lem ts (up x) r k in
          rw (guards.asks x p h u r i e) at (holds_parts m after r g).home

      was_yes : (x p : ℕ) → x < length stages → (get_or stages x nowhere).under ≡ some p → is after x ≡ true → is m.before x ≡ true
          → (b : Bool) → is after p ≡ b → is after p ≡ true
      was_yes x p h u a b true e = e
      was_yes x p h u a b false e =
          let w : is m.before p ≡ true = not-false (is m.before p) (rw (b, u) at (orphan_none m.before stages sound x h)) in
          absurd (false≢true (sym (ap₂
          (λ v w. v && not w) b a) ∙ sym (changes_down m.before after x) ∙ meets.exactly (down x) (omega arith) ∙ closed x p h u b w e))

      over : (x p : ℕ) → x < length stages → (get_or stages x nowhere).under ≡ some p → is after x ≡ true → (b : Bool) → is m.before x ≡ b → is after p ≡ true
      over x p h u a true b = was_yes x p h u a b (is after p) refl
      over x p h u a false b = was_no x p h u a b

      at : (x : ℕ) → x < length stages → (o : Option ℕ) → (get_or stages x nowhere).under ≡ o → (a : Bool) → is after x ≡ a → a && shut after o ≡ false
      at x h o u false a = refl
      at x h none u true a = refl
      at x h (some p) u true a = ap not (over x p h u a (is m.before x) refl)
