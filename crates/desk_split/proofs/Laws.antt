-- Lines and papers at the start of a text, in the form in which the functions' answers need them.
use Prim.Native.Nat.{ℕ, zero, suc, ◌+◌, ◌-◌, ◌^◌, ◌<◌, ◌≤◌}
use mathlib.Core.Path.{◌≡◌, refl, sym, ◌∙◌, ap, ap₂}
use mathlib.Core.Bool.{Bool, true, false, cond, ◌&&◌}
use mathlib.Core.List.{List, [], ◌∷◌, ◌++◌, append-nil}
use native.Mathlib.Omega.{arith}
use native.Mathlib.Numerals.{add-one}
use mir.Val.{Fits}
use mir.Syntax.{w64}
use borrow.Author.Tests.{eq-eqb, ne_eqb, eqb-true, eqb-false, ltb-false}
use Rattle.std.specs.Prelude.{◌==◌, Some, None, position}
use Rattle.std.specs.List.{position_or_len}
use Rattle.std.proofs.lemmas.List.Quantifiers.{position-Some}
use lib.Dec.{eqb, ltb}
use lib.ListN.{length, take, drop, set, get_or, length-drop, length-set}
use lib.Seq.{drop-cons, take_all, take-suc-set, append_snoc}
use Rattle.meaning.specs.Text.{text, begins}
use Rattle.meaning.specs.Desk.{line_length, paper_length}
use Rattle.desk_split.specs.Lines.{starts_from}

-- LINES

line_here : (x : ℕ) (s : List ℕ) → x ≡ 10 → line_length (x ∷ s) ≡ 1
unfolding line_length
line_here x s e = rw (eq-eqb x 10 e, line_length)

line_later : (x : ℕ) (s : List ℕ) → (x ≡ 10 → ⊥) → line_length (x ∷ s) ≡ suc (line_length s)
unfolding line_length
line_later x s e = rw (ne_eqb x 10 e, line_length)

pub line_within : (s : List ℕ) → line_length s ≤ length s
unfolding line_length
line_within [] = omega arith
line_within (x ∷ s) = go (eqb x 10) (line_within s)
  where
    go : (b : Bool) → line_length s ≤ length s → elim b [ true ↦ 1 | false ↦ suc (line_length s) ] ≤ suc (length s)
    go true h = omega arith
    go false h = omega arith

-- up to and with the first LF
line_stop : (s : List ℕ) (i : ℕ) → i < length s → eqb (get_or s i 0) 10 ≡ true → ((k : ℕ) → k < i → eqb (get_or s k 0) 10 ≡ false) → line_length s ≡ i + 1
line_stop [] i h e f = absurd (omega arith)
line_stop (x ∷ s) zero h e f = line_here x s (eqb-true x 10 e)
line_stop (x ∷ s) (suc i) h e f =
    line_later x s (eqb-false x 10 (f 0 (omega arith)))
    ∙ (let m = line_stop s i (omega arith) e (λ k g. f (suc k) (omega arith)) in omega arith)

line_none : (s : List ℕ) → length s ≤ position_or_len (λ x. x == 10) s → line_length s ≡ length s
unfolding line_length
line_none [] h = refl
line_none (x ∷ s) h = go (eqb x 10) refl (line_none s)
  where
    go : (b : Bool) → eqb x 10 ≡ b → (length s ≤ position_or_len (λ x. x == 10) s → line_length s ≡ length s) → line_length (x ∷ s) ≡ suc (length s)
    go true e ih = let g : suc (length s) ≤ 0 = rw e at h in absurd (omega arith)
    go false e ih =
        let g : suc (length s) ≤ 1 + position_or_len (λ x. x == 10) s = rw e at h in
        line_later x s (eqb-false x 10 e) ∙ ap (λ n. suc n) (ih (omega arith))

pub line_first : (s : List ℕ) (i : ℕ) → Some i ≡ position (λ x. x == 10) s → i + 1 ≡ line_length s
line_first s i found =
    let y = position-Some (λ x. x == 10) s i 0 (sym found) in
    sym (line_stop s i y.0 y.1 y.2)

pub line_whole : (s : List ℕ) → None ≡ position (λ x. x == 10) s → length s ≡ line_length s
line_whole s found = sym (line_none s (go (ltb (position_or_len (λ x. x == 10) s) (length s)) refl (sym found)))
  where
    go : (b : Bool) → ltb (position_or_len (λ x. x == 10) s) (length s) ≡ b → cond b (Some (position_or_len (λ x. x == 10) s)) None ≡ None
        → length s ≤ position_or_len (λ x. x == 10) s
    go true e q =
        let z : ◌≡◌ {A = ℕ} 0 1 = cc in
        absurd (omega arith)
    go false e q = ltb-false _ _ e

pub ruleset lining = (line_first, line_whole)

-- PAPERS

paper_over : (starts : Bool) (s : List ℕ) → length s ≤ 0 → paper_length starts s ≡ 0
unfolding paper_length
paper_over starts [] h = refl
paper_over starts (x ∷ s) h = absurd (omega arith)

paper_here : (starts : Bool) (x : ℕ) (s : List ℕ) → starts && begins (text "end=") (x ∷ s) ≡ true → paper_length starts (x ∷ s) ≡ line_length (x ∷ s)
unfolding paper_length
paper_here starts x s e = rw (e, paper_length)

paper_later : (starts : Bool) (x : ℕ) (s : List ℕ) → starts && begins (text "end=") (x ∷ s) ≡ false
    → paper_length starts (x ∷ s) ≡ suc (paper_length (eqb x 10) s)
unfolding paper_length
paper_later starts x s e = rw (e, paper_length)

pub paper_within : (starts : Bool) (s : List ℕ) → paper_length starts s ≤ length s
paper_within starts [] = omega (arith, paper_over starts [] (omega arith))
paper_within starts (x ∷ s) = go (starts && begins (text "end=") (x ∷ s)) refl (paper_within (eqb x 10) s)
  where
    go : (b : Bool) → starts && begins (text "end=") (x ∷ s) ≡ b → paper_length (eqb x 10) s ≤ length s → paper_length starts (x ∷ s) ≤ length (x ∷ s)
    go true e h = omega (arith, paper_here starts x s e, line_within (x ∷ s))
    go false e h = omega (arith, paper_later starts x s e)

-- what is still to be passed gives the whole
pub record Passing (s : List ℕ) (i : ℕ) (starts : Bool) : Type 0 where
  pub within : i ≤ length s
  pub left : paper_length true s ≡ i + paper_length starts (drop i s)

pub passing_start : (s : List ℕ) → Passing s 0 true
passing_start s = record { within = omega arith; left = omega arith }

module _ (s : List ℕ) (i : ℕ) (starts : Bool) (inv : Passing s i starts) where
  pub passing_end : length s ≤ i → i ≡ paper_length true s
  passing_end h = omega (arith, inv.left, paper_over starts (drop i s) (omega (arith, length-drop i s)))

  module _ (h : i < length s) (t : List ℕ) (rest : t ≡ drop i s) (b : Bool) (told : b ≡ (starts && begins (text "end=") t)) where
    pub passing_last : b ≡ true → (u : List ℕ) → u ≡ drop i s → (n : ℕ) → n ≡ line_length u → (r : ℕ) → r ≡ i + n → r ≡ paper_length true s
    passing_last y u v n z r q =
        let m : paper_length starts (drop i s) ≡ line_length (drop i s) = rw (drop-cons s i 0 h)
        (paper_here starts (get_or s i 0) (drop (suc i) s) (rw (← drop-cons s i 0 h, ← rest, ← told) y)) in
        let k : n ≡ line_length (drop i s) = z ∙ ap line_length v in
        omega (arith, inv.left)

    pub passing_more : b ≡ false → (next : Bool) → next ≡ eqb (get_or s i 0) 10 → (j : ℕ) → j ≡ i + 1 → Passing s j next
    passing_more y next e j z =
        let m : paper_length starts (drop i s) ≡ suc (paper_length (eqb (get_or s i 0) 10) (drop (i + 1) s))
        = rw (add-one, drop-cons s i 0 h) (paper_later starts (get_or s i 0) (drop (suc i) s) (rw (← drop-cons s i 0 h, ← rest, ← told) y)) in
        rw (z, e) (record { within = omega arith; left = omega (arith, inv.left) })

pub passing_fits : (s u : List ℕ) (i n : ℕ) → i < length s → length s < 2 ^ 64 → u ≡ drop i s → n ≡ line_length u → (k : ℕ) → k ≡ i + n → Fits w64 k
passing_fits s u i n h g v z k q = rw q (omega (arith, line_within u, ap length v, length-drop i s))

pub ruleset passing = (passing_start, passing_end, passing_last, passing_more, passing_fits)

-- WHERE LINES START

starts_over : (n at : ℕ) (s : List ℕ) → n ≤ 0 → starts_from n at s ≡ []
unfolding starts_from
starts_over zero at s h = refl
starts_over (suc n) at s h = absurd (omega arith)

starts_next : (n at : ℕ) (s : List ℕ) → 0 < n → starts_from n at s ≡ at ∷ starts_from (n - 1) (at + line_length (drop at s)) s
unfolding starts_from
starts_next zero at s h = absurd (omega arith)
starts_next (suc n) at s h = let z : suc n - 1 ≡ n = omega arith in rw z

-- the starts that stand and those that are still to be told give the whole
pub record Starting (s from : List ℕ) (at l : ℕ) (starts : List ℕ) : Type 0 where
  pub within : at ≤ length s
  pub long : length starts ≡ length from
  pub whole : take l starts ++ starts_from (length from - l) at s ≡ take 1 from ++ starts_from (length from - 1) 0 s

pub starting_start : (s from : List ℕ) → Starting s from 0 1 from
starting_start s from = record { within = omega arith; long = refl; whole = refl }

module _ (s from : List ℕ) (at l : ℕ) (starts : List ℕ) (inv : Starting s from at l starts) where
  pub starting_long : length starts ≡ length from
  starting_long = inv.long

  pub starting_end : length starts ≤ l → starts ≡ take 1 from ++ starts_from (length from - 1) 0 s
  starting_end h =
      sym (append-nil starts)
      ∙ ap₂ ◌++◌ (sym (take_all l starts h)) (sym (starts_over (length from - l) at s (omega (arith, inv.long))))
      ∙ inv.whole

  module _ (h : l < length starts) (u : List ℕ) (rest : u ≡ drop at s) (n : ℕ) (line : n ≡ line_length u) where
    pub starting_fits : length s < 2 ^ 64 → (k : ℕ) → k ≡ at + n → Fits w64 k
    starting_fits g k z = rw z (omega (arith, inv.within, line_within u, ap length rest, length-drop at s))

    pub starting_more : (k : ℕ) → k ≡ at + n → (j : ℕ) → j ≡ l + 1 → Starting s from k j (set starts l at)
    starting_more k z j y =
        let e : k ≡ at + line_length (drop at s) = z ∙ ap (λ m. at + m) (line ∙ ap line_length rest) in
        let some : 0 < length from - l = omega (arith, inv.long) in
        let less : length from - j ≡ length from - l - 1 = omega arith in
        let front : take j (set starts l at) ≡ take l starts ++ (at ∷ []) = rw (y, add-one) (take-suc-set starts l at h) in
        record {
          within = omega (arith, inv.within, line_within u, ap length rest, length-drop at s);
          long = length-set starts l at ∙ inv.long;
          whole = rw (front, less, e, append_snoc) (rw (starts_next (length from - l) at s some) at inv.whole);
        }

pub ruleset starting = (starting_start, starting_long, starting_end, starting_fits, starting_more)
