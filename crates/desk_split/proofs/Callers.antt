-- What callers use: a line is found by its number, lines and papers end within their text, and what is printed for an input is printed for its papers.
use Prim.Native.Nat.{ℕ, zero, suc, ◌+◌, ◌-◌, ◌<◌, ◌≤◌}
use mathlib.Core.Path.{◌≡◌, refl, sym, ◌∙◌, ap}
use mathlib.Core.Bool.{true}
use mathlib.Core.List.{List, ◌++◌}
use native.Mathlib.Omega.{arith}
use borrow.Author.Tests.{lt-ltb, le-ltb}
use lib.ListN.{length, length-append, take, drop, get_or}
use lib.Seq.{length-take-le, drop-drop}
use Rattle.meaning.specs.Refusal.{LONG}
use Rattle.meaning.specs.Limits.{desk_bytes}
use Rattle.meaning.specs.Desk.{line_length, paper_length, first_paper, after_paper, refusal_text, on_papers}
use Rattle.meaning.specs.Clerk.{behind_lines}
use Rattle.theory.specs.Writing.Lent.{Wrote}
use Rattle.sets.specs.Front.{Front}
use Rattle.desk_split.specs.Lines.{starts_from, line_starts}
use Rattle.desk_split.proofs.Laws.{line_within, paper_within}

-- LINES

starts_behind : (n i at : ℕ) (s : List ℕ) → i < n → drop (get_or (starts_from n at s) i 0) s ≡ behind_lines i (drop at s)
unfolding starts_from behind_lines
starts_behind zero i at s h = absurd (omega arith)
starts_behind (suc n) zero at s h = refl
starts_behind (suc n) (suc i) at s h =
    starts_behind n i (at + line_length (drop at s)) s (omega arith) ∙ ap (behind_lines i) (sym (drop-drop (line_length (drop at s)) at s))

-- a line ends within its text
pub line_fits : (s : List ℕ) (n : ℕ) → n ≡ line_length s → n ≤ length s
line_fits s n e = omega (arith, line_within s)

pub line_long : (s : List ℕ) (n : ℕ) → n ≡ line_length s → n ≡ length (take n s)
line_long s n e = sym (length-take-le n s (line_fits s n e))

-- what a text has from the line l on
pub line_behind : (n l : ℕ) (s : List ℕ) → l ≤ n → drop (get_or (line_starts n s) l 0) s ≡ behind_lines (l - 1) s
unfolding behind_lines
line_behind n zero s h = refl
line_behind n (suc l) s h = let z : suc l - 1 ≡ l = omega arith in starts_behind n l 0 s h ∙ ap (λ k. behind_lines k s) (sym z)

-- PAPERS

pub paper_fits : (s : List ℕ) (n : ℕ) → n ≡ paper_length true s → n ≤ length s
paper_fits s n e = omega (arith, paper_within true s)

pub paper_long : (s : List ℕ) (n : ℕ) → n ≡ paper_length true s → n ≡ length (take n s)
paper_long s n e = sym (length-take-le n s (paper_fits s n e))

-- THE WHOLE INPUT, whatever is printed for three papers

-- a text that was written at the start of the space
pub front_of : (w o o1 : List ℕ) (r : ℕ) → Wrote 0 w o o1 r → Front w r o o1
front_of w o o1 r v =
    let z : 0 + length w ≡ length w = omega arith in
    record { count = v.next ∙ z; list = v.space ∙ ap (λ n. w ++ drop n o) (sym v.next) }

-- it stands within the space, so it may be lent on as a part
module _ (w o o1 : List ℕ) (n : ℕ) (f : Front w n o o1) where
  pub front_within : n ≤ length o1
  front_within = omega (arith, f.count, ap length f.list, length-append w (drop n o))

  pub front_part : n ≡ length (take n o1)
  front_part = sym (length-take-le n o1 front_within)

module _ (print : List ℕ → List ℕ → List ℕ → List ℕ) (input o : List ℕ) where
  pub input_long : desk_bytes < length input → (o1 : List ℕ) (r : ℕ) → Wrote 0 (refusal_text LONG 0 0) o o1 r → Front (on_papers print input) r o o1
  input_long h o1 r v = rw (lt-ltb desk_bytes (length input) h) (front_of (refusal_text LONG 0 0) o o1 r v)

  pub input_done : (a : ℕ) → a ≡ paper_length true input → (rest : List ℕ) → rest ≡ drop a input → (b : ℕ) → b ≡ paper_length true rest
      → length input ≤ desk_bytes
      → (last : List ℕ) → last ≡ drop b rest → (o1 : List ℕ) (r : ℕ) → Wrote 0 (print (take a input) (take b rest) last) o o1 r → Front
      (on_papers print input) r o o1
  unfolding first_paper after_paper
  input_done a first rest after b second h last behind o1 r v =
      rw (le-ltb desk_bytes (length input) h) (rw (← first, ← after, ← second, ← behind) (front_of (print (take a input) (take b rest) last) o o1 r v))

pub ruleset splitting = (line_fits, line_long, paper_fits, paper_long)
