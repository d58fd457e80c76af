-- Laws of runs of digits, in the form in which the functions' answers need them: the premises are what is known at a place,
-- the conclusion is what is asked there.
use mathlib.Core.Path.{◌≡◌, refl, sym, ◌∙◌, ap}
use mathlib.Core.Bool.{Bool, true, false, ◌&&◌, not, cond, and-true, and-false}
use mathlib.Core.List.{List, [], ◌∷◌}
use mathlib.Core.Option.{Option, none, some}
use Prim.Native.Nat.{ℕ, suc, ◌+◌, ◌-◌, ◌*◌, ◌<◌, ◌≤◌}
use native.Mathlib.Omega.{arith}
use native.Mathlib.Numerals.{add-one}
use borrow.Author.Tests.{eq-eqb, ne_eqb, lt-leb, le-leb, not-false, leb-true}
use lib.Dec.{eqb, leb}
use lib.ListN.{length, drop, get_or}
use lib.Seq.{drop-cons}
use Rattle.meaning.specs.Limits.{middle}
use Rattle.meaning.specs.Text.{run}
use Rattle.meaning.specs.Name.{digit}
use Rattle.meaning.specs.Number.{amount, in_range, digits}
use Rattle.theory.specs.Papers.Names.{run_more, run_halt}
use Rattle.theory.specs.Papers.Entries.{digit_bounds}
use Rattle.theory.specs.Papers.Counts.{amount_grows}
use Rattle.text.proofs.Laws.{run_at_more, run_at_stop, run_at_end}
use Rattle.number.specs.Digits.{as_digits, digit_run, needless_zero, amount_run, digits_run}
use Rattle.std.specs.Prelude.{Some, None}
use Rattle.std.specs.Prelude.{Option as Maybe}
use Rattle.text.specs.declared.Taken.{Taken}

-- a value and the bytes of its run
abbrev good : ℕ → ℕ → Maybe (Taken ℕ)
good v n = Some (record { value = v; bytes = n })

-- the loop at the cursor i, with the value v of the digits that it passed
pub record Passed (s : List ℕ) (v i : ℕ) : Type 0 where
  pub within : i ≤ length s
  pub small : v ≤ middle
  pub counted : run digit s ≡ i + run digit (drop i s)
  pub same : amount 0 (digit_run s) ≡ amount v (digit_run (drop i s))

pub passed_start : (s : List ℕ) → Passed s 0 0
passed_start s = record { within = omega arith; small = omega arith; counted = omega arith; same = refl }

module _ (s : List ℕ) (v i : ℕ) (going : Passed s v i) where
  passed_all : i ≡ run digit s → good v i ≡ amount_run s
  unfolding amount_run in_range amount
  passed_all h =
      let z : run digit (drop i s) ≡ 0 = omega (arith, going.counted) in
      sym (rw (going.same, z, sym h, le-leb v middle going.small))

  pub passed_end : length s ≤ i → good v i ≡ amount_run s
  passed_end h = passed_all (run_at_end digit s i going.counted h)

  module _ (b : Bool) (more : i < length s) (is : b ≡ digit (get_or s i 0)) where
    pub passed_stop : not b ≡ true → good v i ≡ amount_run s
    passed_stop t = passed_all (run_at_stop digit s i b going.counted more is t)

    module _ (t : not b ≡ false) (w d : ℕ) (q : d ≡ get_or s i 0 - 48) (e : w ≡ v * 10 + d) where
      next : amount 0 (digit_run s) ≡ amount w (digit_run (drop (i + 1) s))
      unfolding amount
      next = going.same ∙ rw (add-one, drop-cons s i 0, e, q, run_more digit (get_or s i 0) _ (sym is ∙ not-false b t))

      pub passed_over : (m : ℕ) → m < w → leb middle m ≡ true → None ≡ amount_run s
      unfolding amount_run in_range
      passed_over m h k =
          sym (rw (lt-leb (amount 0 (digit_run s)) middle (omega (arith, leb-true middle m k, next, amount_grows (digit_run (drop (i + 1) s)) w))))

      pub passed_more : w ≤ middle → (j : ℕ) → j ≡ i + 1 → Passed s w j
      passed_more h j z = rw z (record { within = omega arith; small = h; counted = run_at_more digit s i b going.counted more is t; same = next })

-- a needless zero
pub needless_is : (s : List ℕ) → needless_zero s ≡ (leb 2 (length s) && (eqb (get_or s 0 0) 48 && digit (get_or s 1 0)))
unfolding needless_zero
needless_is [] = refl
needless_is (x ∷ []) = refl
needless_is (x ∷ y ∷ s) = rw (le-leb 2 (suc (suc (length s))) (omega arith))

-- the run as the paper judges it: a needless zero, none, or its value
abbrev counted : Maybe (Taken ℕ) → Maybe (Taken ℕ)
counted None = None
counted (Some r) = cond (eqb r.bytes 0) None (Some r)

judged_is : (s : List ℕ) → digits_run s ≡ cond (needless_zero s) None (counted (amount_run s))
unfolding digits_run needless_zero amount_run run digits amount in_range
judged_is [] = refl
judged_is (x ∷ s) = first (digit x) refl s
  where
    one : digit x ≡ true → good (x - 48) 1 ≡ counted (as_digits (in_range (0 * 10 + (x - 48))) 1)
    one p = sym (rw (le-leb (0 * 10 + (x - 48)) middle (omega (arith, (digit_bounds x p).1))) (ap (λ v. good v 1) (omega arith)))

    more : (a : Bool) (o : Option ℕ) (n : ℕ) → as_digits (cond a none o) (suc n) ≡ cond a None (counted (as_digits o (suc n)))
    more true o n = refl
    more false none n = refl
    more false (some v) n = rw (ne_eqb (suc n) 0 (λ e. omega arith))

    second : (y : ℕ) (t : List ℕ) (b : Bool) → digit x ≡ true → digit y ≡ b
        → digits_run (x ∷ y ∷ t) ≡ cond (eqb x 48 && b) None (counted (amount_run (x ∷ y ∷ t)))
    second y t true p q = rw (run_more digit x (y ∷ t) p, run_more digit y t q, and-true (eqb x 48)) (more (eqb x 48) _ _)
    second y t false p q = rw (run_more digit x (y ∷ t) p, run_halt digit y t q, and-false (eqb x 48)) (one p)

    first : (b : Bool) → digit x ≡ b → (s : List ℕ) → digits_run (x ∷ s) ≡ cond (needless_zero (x ∷ s)) None (counted (amount_run (x ∷ s)))
    first true p [] = rw (run_more digit x [] p) (one p)
    first true p (y ∷ t) = second y t (digit y) p refl
    first false p s =
        rw (run_halt digit x s p) (elim (needless_zero (x ∷ s)) as (λ a. ◌≡◌ {A = Maybe (Taken ℕ)} None (cond a None None)) [ true ↦ refl | false ↦ refl ])

module _ (s : List ℕ) (b : Bool) (e : b ≡ needless_zero s) where
  pub digits_needless : b ≡ true → None ≡ digits_run s
  digits_needless t = sym (judged_is s ∙ rw (← e, t))

  module _ (f : b ≡ false) (d : Maybe (Taken ℕ)) (is : d ≡ amount_run s) where
    pub digits_over : d ≡ None → None ≡ digits_run s
    digits_over q = sym (judged_is s ∙ rw (← e, f, ← is, q))

    module _ (r : Taken ℕ) (q : d ≡ Some r) where
      pub digits_none : r.bytes ≡ 0 → None ≡ digits_run s
      digits_none z = sym (judged_is s ∙ rw (← e, f, ← is, q, eq-eqb r.bytes 0 z))

      pub digits_good : (r.bytes ≡ 0 → ⊥) → Some r ≡ digits_run s
      digits_good z = sym (judged_is s ∙ rw (← e, f, ← is, q, ne_eqb r.bytes 0 z))

pub ruleset first_digits = (needless_is, le-leb, lt-leb, eq-eqb, ne_eqb)

pub ruleset passing = (passed_start, passed_end, passed_stop, passed_over, passed_more)

pub ruleset judging = (digits_needless, digits_over, digits_none, digits_good)
