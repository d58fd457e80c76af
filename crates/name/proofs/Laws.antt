-- Tables searched, in the form in which the functions' answers need it: the premises are what is known at a place, the conclusion is what is asked there.
use mathlib.Core.Path.{◌≡◌, refl, ap, sym, ◌∙◌}
use mathlib.Core.Bool.{Bool, true, false}
use mathlib.Core.List.{List, [], ◌∷◌}
use Prim.Native.Nat.{ℕ, zero, suc, ◌+◌, ◌-◌, ◌<◌, ◌≤◌, min}
use native.Mathlib.Omega.{arith}
use native.Mathlib.Nat.{sub-eq-zero_of_le}
use native.Mathlib.Numerals.{add-one}
use borrow.Author.Tests.{eq-eqb, ne_eqb}
use lib.ListN.{length, drop, take, get_or, drop_of_length-le}
use lib.Seq.{drop-cons, take-nil}
use Rattle.name.specs.declared.Name.{Name as Kept}
use Rattle.std.specs.Prelude.{Some, None}
use Rattle.std.specs.Prelude.{Option as Maybe}
use Rattle.name.specs.Names.{kept_in}
use Rattle.name.specs.Answers.{found_by, same_kept, found_in, further}

-- THE KEPT NAMES OF A TABLE, place by place
pub kept_length : (t : List ℕ) → length (kept_in t) ≡ length t
unfolding kept_in
kept_length [] = refl
kept_length (v ∷ t) = ap suc (kept_length t)

pub kept_at : (t : List ℕ) (i : ℕ) → get_or (kept_in t) i (record { word = 0 }) ≡ record { word = get_or t i 0 }
unfolding kept_in
kept_at [] i = refl
kept_at (v ∷ t) zero = refl
kept_at (v ∷ t) (suc i) = kept_at t i

-- a place found k places further on
unfoldable pub shifted : ℕ → Maybe ℕ → Maybe ℕ
shifted k (Some i) = Some (k + i)
shifted k None = None

pub shifted_suc : (k : ℕ) (f : Maybe ℕ) → shifted k (further f) ≡ shifted (suc k) f
unfolding shifted
shifted_suc k (Some i) = ap (λ n. Some n) (omega arith)
shifted_suc k None = refl

pub found_here : {A : Type 0} (p : A → Bool) (x : A) (xs : List A) → p x ≡ true → found_by p (x ∷ xs) ≡ Some 0
unfolding found_by
found_here p x xs e = rw (e, found_by)

pub found_later : {A : Type 0} (p : A → Bool) (x : A) (xs : List A) → p x ≡ false → found_by p (x ∷ xs) ≡ further (found_by p xs)
unfolding found_by
found_later p x xs e = rw (e, found_by)

-- the search of a table at the cursor i
pub find_start : (from : ℕ) (f : Maybe ℕ) → f ≡ shifted (from - from) f
unfolding shifted
find_start from (Some i) = ap (λ n. Some n) (omega arith)
find_start from None = refl

module _ (w : Kept) (t : List ℕ) (from to i : ℕ)
    (v : found_in w (take (to - from) (drop from (kept_in t))) ≡ shifted (i - from) (found_in w (take (to - i) (drop i (kept_in t))))) where
  pub find_over : to ≤ i → None ≡ found_in w (take (to - from) (drop from (kept_in t)))
  unfolding found_by shifted
  find_over h = sym (v ∙ rw (sub-eq-zero_of_le h))

  pub find_none : length t ≤ i → None ≡ found_in w (take (to - from) (drop from (kept_in t)))
  unfolding found_by shifted
  find_none h = sym (v ∙ rw (drop_of_length-le (kept_in t) {i = i} (omega (arith, kept_length t)), take-nil))

  module _ (within : i < min to (length t)) where
    abbrev here : Kept
    here = record { word = get_or t i 0 }

    left_is : take (to - i) (drop i (kept_in t)) ≡ here ∷ take (to - (i + 1)) (drop (i + 1) (kept_in t))
    left_is =
        let m : to - i ≡ suc (to - (i + 1)) = omega arith in
        rw (m, add-one, drop-cons (kept_in t) i (record { word = 0 }) (omega (arith, kept_length t)), kept_at t i)

    pub find_here : get_or t i 0 ≡ w.word → (k : ℕ) → k ≡ i - from → Some k ≡ found_in w (take (to - from) (drop from (kept_in t)))
    unfolding shifted same_kept
    find_here e k z = sym (v ∙ rw (left_is, found_here (same_kept w) here _ (eq-eqb _ _ e)) (ap (λ n. Some n) (omega arith)))

    pub find_more : from ≤ i → (get_or t i 0 ≡ w.word → ⊥)
        → found_in w (take (to - from) (drop from (kept_in t))) ≡ shifted (i + 1 - from) (found_in w (take (to - (i + 1)) (drop (i + 1) (kept_in t))))
    unfolding same_kept
    find_more h e =
        v ∙ rw (left_is, found_later (same_kept w) here _ (ne_eqb _ _ e))
        (shifted_suc (i - from) _ ∙ ap (λ k. shifted k (found_in w (take (to - (i + 1)) (drop (i + 1) (kept_in t))))) (omega arith))

pub ruleset finding = (find_start, find_over, find_none, find_here, find_more)

pub found_within : {A : Type 0} (p : A → Bool) (vs : List A) (i : ℕ) → found_by p vs ≡ Some i → i < length vs
unfolding found_by
found_within p [] i e =
    let z : ◌≡◌ {A = ℕ} 0 1 = cc in
    absurd (omega arith)
found_within p (v ∷ vs) i e = go (p v) (found_by p vs) e (found_within p vs)
  where
    go : (b : Bool) (f : Maybe ℕ) → elim b [ true ↦ Some 0 | false ↦ further f ] ≡ Some i → ((j : ℕ) → f ≡ Some j → j < length vs) → i < suc (length vs)
    go true f e ih =
        let z : 0 ≡ i = cc in
        omega arith
    go false None e ih =
        let z : ◌≡◌ {A = ℕ} 0 1 = cc in
        absurd (omega arith)
    go false (Some j) e ih =
        let z : suc j ≡ i = cc in
        omega (arith, ih j refl)
