-- The last line: the key, the count, the LF and nothing behind it, in the form in which `is_count`, `closing` and `end_line` need it.
use mathlib.Core.Path.{◌≡◌, sym, ◌∙◌, ap}
use mathlib.Core.Bool.{Bool, true, false, not}
use mathlib.Core.List.{List}
use Prim.Native.Nat.{ℕ, ◌+◌, ◌-◌, ◌<◌, ◌≤◌}
use native.Mathlib.Omega.{arith}
use borrow.Author.Tests.{ne_eqb, not-true, not-false}
use lib.Dec.{eqb}
use lib.ListN.{length, drop, drop_of_length-le}
use lib.Seq.{drop-cons}
use Rattle.meaning.specs.Refusal.{LINE}
use Rattle.meaning.specs.Limits.{middle}
use Rattle.meaning.specs.Text.{begins, text}
use Rattle.meaning.specs.Reading.{paper_end, closed, after, demand}
use Rattle.meaning.specs.Number.{number, end_line}
use Rattle.theory.specs.Lists.Members.{eqb_alike}
use Rattle.text.proofs.Callers.{begins_fits, due_here, due_off, line_end_here, line_end_off}
use Rattle.number.specs.Answers.{as_number, as_end}
use Rattle.std.specs.Prelude.{Result, Ok, Err}
use Rattle.reply.specs.declared.Fault.{Fault}
use Rattle.reply.specs.declared.Fault.TheVariants as F
use Rattle.reply.specs.declared.Wrong.{Wrong}
use Rattle.text.specs.declared.Taken.{Taken}
use Rattle.number.proofs.Callers.{number_wrong, number_got}

-- at the line, or at the one behind it
abbrev at_line : Fault → ℕ → Result (Unit {0}) Wrong
at_line f l = Err (record { fault = f; line = l })

-- the count, compared without a sum
pub count_below : (v c : ℕ) → v < 1000000000 → false ≡ eqb v (1000000000 + c)
count_below v c h = sym (ne_eqb v (1000000000 + c) (λ e. omega arith))

pub count_same : (v c : ℕ) → 1000000000 ≤ v → eqb (v - 1000000000) c ≡ eqb v (1000000000 + c)
count_same v c h = eqb_alike (v - 1000000000) c v (1000000000 + c) (λ e. omega arith) (λ e. omega arith)

-- behind the count
module _ (s : List ℕ) (b : Bool) (is : b ≡ begins (text "\n") s) where
  pub closing_other : not b ≡ true → at_line F.Line 0 ≡ as_end (closed 0 s)
  unfolding closed
  closing_other t = sym (rw (line_end_off 0 s b is (not-true b t)))

  module _ (t : not b ≡ false) where
    pub closing_more : (length s ≡ 1 → ⊥) → at_line F.Line 1 ≡ as_end (closed 0 s)
    unfolding closed paper_end
    closing_more h = sym (rw (line_end_here 2 0 s b is (not-false b t), drop-cons s 1 0 (omega (arith, begins_fits (text "\n") s (sym is ∙ not-false b t)))))

    pub closing_done : length s ≡ 1 → Ok tt ≡ as_end (closed 0 s)
    unfolding closed paper_end
    closing_done h = sym (rw (line_end_here 2 0 s b is (not-false b t), drop_of_length-le s {i = 1} (omega arith)))

-- the whole line
module _ (c : ℕ) (s : List ℕ) (b : Bool) (is : b ≡ begins (text "end=") s) where
  pub line_keyless : not b ≡ true → at_line F.Line 0 ≡ as_end (end_line c 0 s)
  unfolding end_line
  line_keyless t = sym (rw (due_off (text "end=") 0 s b is (not-true b t)))

  module _ (t : not b ≡ false) (u : List ℕ) (p : Result (Taken ℕ) Fault) (at : u ≡ drop 4 s) (told : p ≡ as_number u (number 0 u)) where
    keyed : end_line c 0 s ≡ after (number 0 u) (λ w k s. after (demand LINE (eqb w.at (middle + c)) k s) (λ _. closed))
    unfolding end_line
    keyed = rw (due_here 2 (text "end=") 0 s (λ h. omega (arith, begins_fits (text "end=") s (sym is ∙ not-false b t))) b is (not-false b t), at)

    pub line_refused : (e : Fault) → p ≡ Err e → at_line e 0 ≡ as_end (end_line c 0 s)
    line_refused e q = let h = number_wrong u p told e q in ap (λ f. at_line f 0) h.is ∙ sym (rw (keyed, h.reads 0))

    module _ (v : Taken ℕ) (q : p ≡ Ok v) (a : Bool) (same : a ≡ eqb v.value (1000000000 + c)) where
      pub line_miscounted : not a ≡ true → at_line F.Line 0 ≡ as_end (end_line c 0 s)
      line_miscounted e = sym (rw (keyed, number_got u p told v q 0, sym same ∙ not-true a e))

      pub line_closed : not a ≡ false → (w : List ℕ) (r : Result (Unit {0}) Wrong) → w ≡ drop v.bytes u → r ≡ as_end (closed 0 w) → r ≡ as_end (end_line c 0 s)
      line_closed e w r f g = g ∙ rw (keyed, number_got u p told v q 0, sym same ∙ not-false a e, f)

pub ruleset closing = (closing_other, closing_more, closing_done)

pub ruleset ending = (line_keyless, line_refused, line_miscounted, line_closed)
