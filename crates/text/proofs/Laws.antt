-- Runs of bytes and fixed texts, in the form in which the functions' answers need them: the premises are what is known at a
-- place, the conclusion is what is asked there.
use mathlib.Core.Path.{◌≡◌, refl, sym, ◌∙◌}
use mathlib.Core.Bool.{Bool, true, false, not, ◌&&◌}
use mathlib.Core.List.{List, [], ◌∷◌}
use Prim.Native.Nat.{ℕ, suc, ◌+◌, ◌<◌, ◌≤◌}
use native.Mathlib.Omega.{arith}
use native.Mathlib.Numerals.{add-one}
use borrow.Author.Tests.{not-true, not-false}
use lib.ListN.{length, drop, take, get_or, length-drop}
use lib.Seq.{drop-cons, length-take-le}
use Rattle.meaning.specs.Text.{run, begins}
use Rattle.meaning.specs.Reading.{due}
use Rattle.theory.specs.Papers.Names.{run_more, run_halt}
use Rattle.theory.specs.Reading.Told.{run_fits, took, begins_fits}
use Rattle.theory.specs.Reading.Fixed.{due_ended, due_here, due_not}
use Rattle.meaning.specs.Refusal.{LINE}
use Rattle.std.specs.Prelude.{Result, Ok, Err}
use Rattle.std.specs.List.{starts_with}
use Rattle.theory.specs.Lists.Members.{eqb_alike}
use lib.Dec.{eqb}
use Rattle.text.specs.Pieces.{as_due, as_length_by}

-- THE LONGEST RUN: a loop at the cursor i
module _ (p : ℕ → Bool) (s : List ℕ) (i : ℕ) where
  module _ (b : Bool) (v : run p s ≡ i + run p (drop i s)) (h : i < length s) (e : b ≡ p (get_or s i 0)) where
    pub run_at_more : not b ≡ false → run p s ≡ i + 1 + run p (drop (i + 1) s)
    run_at_more t = rw add-one (omega (arith, rw (← drop-cons s i 0 h) at (run_more p (get_or s i 0) (drop (suc i) s) (sym e ∙ not-false b t))))

    pub run_at_stop : not b ≡ true → i ≡ run p s
    run_at_stop t = omega (arith, rw (← drop-cons s i 0 h) at (run_halt p (get_or s i 0) (drop (suc i) s) (sym e ∙ not-true b t)))

  pub run_at_end : run p s ≡ i + run p (drop i s) → length s ≤ i → i ≡ run p s
  run_at_end v h = omega (arith, run_fits p (drop i s), length-drop i s)

-- TO BEGIN WITH A TEXT is what the library tells
pub begins_library : (k s : List ℕ) → starts_with eqb s k ≡ begins k s
unfolding begins
begins_library [] s = refl
begins_library (y ∷ k) [] = refl
begins_library (y ∷ k) (x ∷ s) = rw (eqb_alike y x x y sym sym) (go (eqb x y) (begins_library k s))
  where
    go : (b : Bool) → starts_with eqb s k ≡ begins k s → (b && starts_with eqb s k) ≡ elim b [ true ↦ begins k s | false ↦ false ]
    go true h = h
    go false h = refl

pub length_run : (p : ℕ → Bool) (s : List ℕ) (n : ℕ) → n ≡ run p s → length (take n s) ≡ n
length_run p s n is = length-take-le n s (omega (arith, run_fits p s))

pub ruleset running = (run_at_more, run_at_stop, run_at_end)

-- the returns of due_or
module _ {E : Type 0} (ended other : E) (t k : List ℕ) where
  pub or_ended : length t ≡ 0 → Err ended ≡ as_due ended other t (due 0 k 0 t)
  or_ended h = rw (due_ended 0 k 0 t h)

  module _ (some : length t ≡ 0 → ⊥) (b : Bool) (is : b ≡ begins k t) where
    pub or_other : not b ≡ true → Err other ≡ as_due ended other t (due 0 k 0 t)
    or_other q = rw (due_not 0 k 0 t some b is (not-true b q))

    pub or_here : not b ≡ false → Ok (length k) ≡ as_due ended other t (due 0 k 0 t)
    or_here q = rw (due_here 0 k 0 t some b is (not-false b q), took t (length k) (begins_fits k t (sym is ∙ not-false b q)))

pub ruleset due_or_returns = (or_ended, or_other, or_here)

-- as what a refusal is told by
module _ {E : Type 0} (of : ℕ → E) where
  pub due_numbered : (n : ℕ) (t k : List ℕ) → as_due (of LINE) (of n) t (due 0 k 0 t) ≡ as_length_by of t (due n k 0 t)
  due_numbered n [] k = rw (due_ended 0 k 0 [] refl, due_ended n k 0 [] refl)
  due_numbered n (x ∷ s) k = go (begins k (x ∷ s)) refl
    where
      some : length (x ∷ s) ≡ 0 → ⊥
      some h = omega arith

      go : (b : Bool) → b ≡ begins k (x ∷ s) → as_due (of LINE) (of n) (x ∷ s) (due 0 k 0 (x ∷ s)) ≡ as_length_by of (x ∷ s) (due n k 0 (x ∷ s))
      go true z = rw (due_here 0 k 0 (x ∷ s) some true z refl, due_here n k 0 (x ∷ s) some true z refl)
      go false z = rw (due_not 0 k 0 (x ∷ s) some false z refl, due_not n k 0 (x ∷ s) some false z refl)

  pub due_told : (number : E → ℕ) → ((e : E) → of (number e) ≡ e) → (ended e : E) (t k : List ℕ) → ended ≡ of LINE → (r : Result ℕ E)
      → r ≡ as_due ended e t (due 0 k 0 t) → r ≡ as_length_by of t (due (number e) k 0 t)
  due_told number again ended e t k is r z = rw (is, ← again e) at z ∙ due_numbered (number e) t k
