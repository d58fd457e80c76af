-- Numbers, from the answer on their digits, in the form in which `number_piece` needs them.
use mathlib.Core.Path.{◌≡◌, refl, sym, ◌∙◌, ap, subst}
use mathlib.Core.Bool.{Bool, true, false}
use mathlib.Core.List.{List, [], ◌∷◌}
use mathlib.Core.Option.{Option, none, some}
use Prim.Native.Nat.{ℕ, ◌+◌, ◌-◌, ◌^◌, ◌<◌, ◌≤◌}
use native.Mathlib.Omega.{arith}
use native.Mathlib.Nat.{add_comm}
use borrow.Author.Tests.{eq-eqb, ne_eqb}
use mir.Val.{Fits}
use mir.Syntax.{w64}
use lib.ListN.{length, drop, take, get_or, length-drop}
use lib.Seq.{drop-cons, take_all}
use Rattle.meaning.specs.Limits.{middle}
use Rattle.meaning.specs.Text.{run, begins}
use Rattle.meaning.specs.Reading.{Got, not_ended, stands, longest}
use Rattle.meaning.specs.Name.{digit}
use Rattle.meaning.specs.Number.{digits, place, Written, judged, number}
use Rattle.theory.specs.Papers.Names.{run_taken}
use Rattle.std.proofs.Common.{drop-drop}
use Rattle.theory.specs.Reading.Told.{run_fits, took, not_ended_none}
use Rattle.theory.specs.Papers.Entries.{digits_most}
use Rattle.number.specs.Answers.{as_number}
use Rattle.number.specs.Digits.{as_digits, digit_run, digits_run}
use Rattle.std.specs.Prelude.{Ok, Err, Some, None}
use Rattle.std.specs.Prelude.{Option as Maybe}
use Rattle.reply.specs.declared.Fault.TheVariants as F
use Rattle.text.specs.declared.Taken.{Taken}

-- what an answer on the digits of s means
abbrev Means : List ℕ → Maybe (Taken ℕ) → Type 0
Means s None = digits (digit_run s) ≡ none
Means s (Some r) = (digits (digit_run s) ≡ some r.value) × (run digit s ≡ r.bytes)

means : (s : List ℕ) → Means s (digits_run s)
unfolding digits_run
means s = go (digits (digit_run s)) refl
  where
    go : (o : Option ℕ) → digits (digit_run s) ≡ o → Means s (as_digits o (run digit s))
    go none e = e
    go (some v) e = (e, refl)

-- digits that stand for a value: it is in the range
module _ (s : List ℕ) (d : Maybe (Taken ℕ)) (is : d ≡ digits_run s) (r : Taken ℕ) (q : d ≡ Some r) where
  good : (digits (digit_run s) ≡ some r.value) × (run digit s ≡ r.bytes)
  good = subst (Means s) (sym is ∙ q) (means s)

  pub good_small : r.value ≤ middle
  good_small = digits_most (digit_run s) r.value (run_taken digit s) good.0

  pub good_fits : (w : ℕ) → w ≡ middle + r.value → Fits w64 w
  good_fits w e = omega (arith, good_small)

-- what is read behind a minus, or where there is none
abbrev behind : Bool → List ℕ → Got Written
behind minus s = judged minus (digit_run s) (place minus (digits (digit_run s))) 0 (drop (run digit s) s)

minus_is : (s : List ℕ) → (length s ≡ 0 → ⊥) → get_or s 0 0 ≡ 45 → number 0 s ≡ behind true (drop 1 s)
unfolding number not_ended stands begins longest
minus_is s h e = ap (number 0) (drop-cons s 0 0 (omega arith) ∙ ap (λ x. x ∷ drop 1 s) e)

plus_is : (s : List ℕ) → (length s ≡ 0 → ⊥) → (get_or s 0 0 ≡ 45 → ⊥) → number 0 s ≡ behind false s
unfolding number not_ended stands begins longest
plus_is [] h e = absurd (h refl)
plus_is (x ∷ s) h e = rw (ne_eqb x 45 e, begins)

-- the returns
pub piece_ended : (s : List ℕ) → length s ≡ 0 → Err F.Line ≡ as_number s (number 0 s)
unfolding number
piece_ended s h = sym (rw (not_ended_none 0 s h))

-- the bytes that a run took
run_took : (s : List ℕ) (n : ℕ) → run digit s ≡ n → length s - length (drop n s) ≡ n
run_took s n e = took s n (omega (arith, run_fits digit s))

module _ (s : List ℕ) (begun : length s ≡ 0 → ⊥) (d : Maybe (Taken ℕ)) where
  module _ (minus : get_or s 0 0 ≡ 45) (from : d ≡ digits_run (take (length s - 1) (drop 1 s))) where
    is : d ≡ digits_run (drop 1 s)
    is = from ∙ ap digits_run (take_all (length s - 1) (drop 1 s) (simp length-drop (omega arith)))

    pub minus_refused : d ≡ None → Err F.Number ≡ as_number s (number 0 s)
    unfolding place
    minus_refused q = sym (rw (minus_is s begun minus, subst (Means (drop 1 s)) (sym is ∙ q) (means (drop 1 s))))

    module _ (r : Taken ℕ) (q : d ≡ Some r) where
      pub minus_nothing : r.value ≡ 0 → Err F.Number ≡ as_number s (number 0 s)
      unfolding place
      minus_nothing z = sym (rw (minus_is s begun minus, (good (drop 1 s) d is r q).0, eq-eqb r.value 0 z))

      pub minus_number : (r.value ≡ 0 → ⊥) → Ok (record { value = middle - r.value; bytes = r.bytes + 1 }) ≡ as_number s (number 0 s)
      unfolding place
      minus_number z =
          let (x, y) = good (drop 1 s) d is r q in
          sym (rw (minus_is s begun minus, x, ne_eqb r.value 0 z, y, drop-drop r.bytes 1 s, add_comm 1 r.bytes, took s (r.bytes + 1) (within y)))
        where
          within : run digit (drop 1 s) ≡ r.bytes → r.bytes + 1 ≤ length s
          within y = omega (arith, run_fits digit (drop 1 s), length-drop 1 s, begun)

      pub minus_fits : length s < 2 ^ 64 → (k : ℕ) → k ≡ r.bytes + 1 → Fits w64 k
      minus_fits h k f = omega (arith, (good (drop 1 s) d is r q).1, run_fits digit (drop 1 s), length-drop 1 s, begun)

  module _ (plus : get_or s 0 0 ≡ 45 → ⊥) (is : d ≡ digits_run s) where
    pub plus_refused : d ≡ None → Err F.Number ≡ as_number s (number 0 s)
    unfolding place
    plus_refused q = sym (rw (plus_is s begun plus, subst (Means s) (sym is ∙ q) (means s)))

    pub plus_number : (r : Taken ℕ) → d ≡ Some r → Ok (record { value = middle + r.value; bytes = r.bytes }) ≡ as_number s (number 0 s)
    unfolding place
    plus_number r q = let (x, y) = good s d is r q in sym (rw (plus_is s begun plus, x, y, run_took s r.bytes y))

pub ruleset placing = (piece_ended, minus_refused, minus_nothing, minus_number, minus_fits, plus_refused, plus_number, good_small, good_fits)
