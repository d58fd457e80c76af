-- For callers: what an answer of this crate tells of the meaning, at every line l and for every rest t, without a look into the meaning.
use mathlib.Core.Path.{◌≡◌, refl, sym, ◌∙◌, ap}
use mathlib.Core.List.{List, [], ◌∷◌}
use Prim.Native.Nat.{ℕ, suc, ◌+◌, ◌≤◌}
use native.Mathlib.Omega.{arith}
use native.Mathlib.Numerals.{add-one}
use lib.ListN.{length, drop, take}
use lib.Dec.{eqb}
use Rattle.std.specs.Prelude.{Result, Ok, Err}
use Rattle.meaning.specs.Text.{text}
use Rattle.meaning.specs.Reading.{Got, got, wrong, Reader, after, paper_end, closed}
use Rattle.meaning.specs.Limits.{middle, highest}
use Rattle.meaning.specs.Number.{number, end_line}
use Rattle.theory.specs.Reading.Built.{Built, line_fault, due_built, demand_built, number_built, closed_built, end_line_built}
use Rattle.theory.specs.Reading.Answered.{Ends, here, inline_ends, line_ends}
use Rattle.theory.specs.Reading.Shown.{Shows, Whole, shown_ends}
use Rattle.theory.specs.Reading.Shift.{shifted, built_shifts}
use Rattle.theory.specs.Reading.Piece.{Took, Refuses, piece_took, piece_refuses}
use Rattle.reply.specs.declared.Fault.{Fault}
use Rattle.reply.specs.declared.Wrong.{Wrong}
use Rattle.reply.specs.Faults.{fault_of, wrong_of}
use Rattle.text.specs.declared.Taken.{Taken}
use Rattle.theory.specs.Papers.Entries.{number_most, number_spells}
use Rattle.number.specs.Answers.{as_number, as_end}

-- NUMBERS, from the answer p of number_piece on t
pub number_shows : Shows (λ w. w.shown) (λ w. w.at ≤ highest) number
number_shows = record { inline = number_built; ensures = number_most; spells = number_spells }

pub number_ends : (t : List ℕ) → Ends here (Whole (λ w. w.shown) (λ w. w.at ≤ highest) t) number t
number_ends = shown_ends number_shows

module _ (t : List ℕ) (p : Result (Taken ℕ) Fault) (is : p ≡ as_number t (number 0 t)) where
  pub number_wrong : (e : Fault) → p ≡ Err e → Refuses fault_of number t e
  number_wrong e z = piece_refuses (λ w n. record { value = w.at; bytes = n }) fault_of (number_ends t) p is e z

  module _ (v : Taken ℕ) (e : p ≡ Ok v) where
    read : Took (λ w n. record { value = w.at; bytes = n }) here (Whole (λ w. w.shown) (λ w. w.at ≤ highest) t) number t v
    read = piece_took (λ w n. record { value = w.at; bytes = n }) fault_of (number_ends t) p is v e

    pub number_got : (l : ℕ) → number l t ≡ got (record { shown = take v.bytes t; at = v.value }) l (drop v.bytes t)
    number_got l = rw read.same (read.reads l ∙ ap (λ s. got (record { shown = s; at = read.value.at }) l (drop read.bytes t)) read.holds.1)

    pub number_fits : v.bytes ≤ length t
    number_fits = rw read.same read.within

    pub number_small : v.value ≤ highest
    number_small = rw read.same read.holds.0

-- THE LAST LINE, read as line 0: nothing is left behind it, or it is refused at this line or the next
abbrev Ended : Got (Unit {0}) → Type 0
Ended (got u l t) = (l ≡ 1) × (t ≡ [])
Ended (wrong k l) = l ≤ 1

ended_after : {A : Type 0} {to : ℕ → ℕ} {P : A → ℕ → Type 0} {r : Reader A} (f : A → Reader (Unit {0})) {t : List ℕ} → Ends to P r t
    → ((a : A) (n : ℕ) → Ended (f a (to 0) (drop n t))) → Ended (after (r 0 t) f)
ended_after f (Ends.found a n _ _ e) g = rw (e 0) (g a n)
ended_after f (Ends.faulty k e) g = rw (e 0) (omega arith)

-- the end of a paper, and the line `end=`
closed_ended : (t : List ℕ) → Ended (closed 0 t)
unfolding closed paper_end
closed_ended t = ended_after _ (line_ends line_fault t) λ _ n. over (drop n t)
  where
    over : (u : List ℕ) → Ended (paper_end 1 u)
    over [] = (refl, refl)
    over (x ∷ u) = omega arith

end_ended : (c : ℕ) (t : List ℕ) → Ended (end_line c 0 t)
unfolding end_line
end_ended c t =
    ended_after _ (inline_ends (due_built (text "end=") line_fault) t) λ _ n.
    ended_after _ (inline_ends number_built _) λ w m.
    ended_after _ (inline_ends (demand_built (eqb w.at (middle + c)) line_fault) _) λ _ i.
    closed_ended (drop i (drop m (drop n t)))

-- a refusal w at line l, or at the line behind it
pub record RefusesAt (r : Reader (Unit {0})) (t : List ℕ) (w : Wrong) : Type 0 where
  pub number : ℕ
  pub is : w ≡ wrong_of number w.line
  pub reads : (l : ℕ) → r l t ≡ wrong number (l + w.line)
  pub next : w.line ≤ 1

module _ {r : Reader (Unit {0})} (built : Built r) (t : List ℕ) (ended : Ended (r 0 t)) (p : Result (Unit {0}) Wrong) (is : p ≡ as_end (r 0 t)) where
  done : (u : Unit {0}) → p ≡ Ok u → (l : ℕ) → r l t ≡ got tt (suc l) []
  done u e l = built_shifts built l t ∙ go (r 0 t) ended (sym e ∙ is)
    where
      go : (x : Got (Unit {0})) → Ended x → ◌≡◌ {A = Result (Unit {0}) Wrong} (Ok u) (as_end x) → shifted l x ≡ got tt (suc l) []
      go (got u i s) h z = rw (h.0, h.1, add-one)
      go (wrong k i) h z = cc

  off : (w : Wrong) → p ≡ Err w → RefusesAt r t w
  off w e = go (r 0 t) refl ended (sym e ∙ is)
    where
      go : (x : Got (Unit {0})) → r 0 t ≡ x → Ended x → ◌≡◌ {A = Result (Unit {0}) Wrong} (Err w) (as_end x) → RefusesAt r t w
      go (got u i s) q h z = cc
      go (wrong k i) q h z =
          let y : w ≡ wrong_of k i = cc in
          record { number = k; is = rw y; reads = λ l. built_shifts built l t ∙ rw (q, y); next = rw y h }

module _ (t : List ℕ) (p : Result (Unit {0}) Wrong) (is : p ≡ as_end (closed 0 t)) where
  pub closed_got : (u : Unit {0}) → p ≡ Ok u → (l : ℕ) → closed l t ≡ got tt (suc l) []
  closed_got = done closed_built t (closed_ended t) p is

  pub closed_wrong : (w : Wrong) → p ≡ Err w → RefusesAt closed t w
  closed_wrong = off closed_built t (closed_ended t) p is

module _ (c : ℕ) (t : List ℕ) (p : Result (Unit {0}) Wrong) (is : p ≡ as_end (end_line c 0 t)) where
  pub end_got : (u : Unit {0}) → p ≡ Ok u → (l : ℕ) → end_line c l t ≡ got tt (suc l) []
  end_got = done (end_line_built c) t (end_ended c t) p is

  pub end_wrong : (w : Wrong) → p ≡ Err w → RefusesAt (end_line c) t w
  end_wrong = off (end_line_built c) t (end_ended c t) p is
