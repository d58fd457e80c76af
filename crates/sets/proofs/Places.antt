-- Where a number goes into a list: behind those at the start that are below it.
use Prim.Native.Nat.{ℕ, zero, suc, ◌≤◌, ◌<◌}
use mathlib.Core.Path.{◌≡◌, refl, sym, ◌∙◌, ap}
use mathlib.Core.List.{List, [], ◌∷◌, ◌++◌}
use native.Mathlib.Omega.{arith}
use lib.ListN.{length, get_or, take, drop}
use borrow.Author.Tests.{lt-ltb, le-ltb}
use Rattle.meaning.specs.Text.{run}
use Rattle.meaning.specs.Outlook.{insert}
use Rattle.theory.specs.Lists.Ascending.{Placing, lower, equal, higher, placing, insert_lower, insert_equal, insert_higher}
use Rattle.sets.specs.Front.{below}

-- one number more at the start
below_more : (v x : ℕ) (l : List ℕ) → x < v → below v (x ∷ l) ≡ suc (below v l)
unfolding run
below_more v x l h = rw (lt-ltb x v h, run)

below_none : (v x : ℕ) (l : List ℕ) → v ≤ x → below v (x ∷ l) ≡ 0
unfolding run
below_none v x l h = rw (le-ltb x v h, run)

-- so many are below v as the places tell
pub below_is : (v k : ℕ) (l : List ℕ) → k ≤ length l → ((i : ℕ) → i < k → get_or l i 0 < v) → (k < length l → v ≤ get_or l k 0) → k ≡ below v l
unfolding run
below_is v zero [] h b a = refl
below_is v (suc k) [] h b a = absurd (omega arith)
below_is v zero (x ∷ l) h b a = sym (below_none v x l (a (omega arith)))
below_is v (suc k) (x ∷ l) h b a =
    ap suc (below_is v k l (omega arith) (λ i g. b (suc i) (omega arith)) (λ g. a (omega arith))) ∙ sym (below_more v x l (b 0 (omega arith)))

-- v goes in behind those below it, unless it stands there
pub insert_there : (v p : ℕ) (l : List ℕ) → p ≡ below v l → p < length l → get_or l p 0 ≡ v → insert v l ≡ l
insert_there v p [] e h g = absurd (omega arith)
insert_there v p (x ∷ l) e h g = go (placing v x) p e h g (λ q. insert_there v q l)
  where
    go : Placing v x → (p : ℕ) → p ≡ below v (x ∷ l) → p < length (x ∷ l) → get_or (x ∷ l) p 0 ≡ v
        → ((q : ℕ) → q ≡ below v l → q < length l → get_or l q 0 ≡ v → insert v l ≡ l) → insert v (x ∷ l) ≡ x ∷ l
    go (lower k) zero e h g ih = absurd (omega arith)
    go (lower k) (suc p) e h g ih = absurd (omega (arith, below_none v x l (omega arith)))
    go (equal k) p e h g ih = insert_equal v x l k
    go (higher k) zero e h g ih = absurd (omega (arith, below_more v x l k))
    go (higher k) (suc p) e h g ih = insert_higher v x l k ∙ ap (λ t. x ∷ t) (ih p (omega (arith, below_more v x l k)) (omega arith) g)

pub insert_between : (v p : ℕ) (l : List ℕ) → p ≡ below v l → (p < length l → get_or l p 0 ≡ v → ⊥) → insert v l ≡ take p l ++ (v ∷ drop p l)
unfolding insert run
insert_between v zero [] e n = refl
insert_between v (suc p) [] e n = absurd (omega arith)
insert_between v p (x ∷ l) e n = go (placing v x) p e n (λ q. insert_between v q l)
  where
    go : Placing v x → (p : ℕ) → p ≡ below v (x ∷ l) → (p < length (x ∷ l) → get_or (x ∷ l) p 0 ≡ v → ⊥)
        → ((q : ℕ) → q ≡ below v l → (q < length l → get_or l q 0 ≡ v → ⊥) → insert v l ≡ take q l ++ (v ∷ drop q l))
        → insert v (x ∷ l) ≡ take p (x ∷ l) ++ (v ∷ drop p (x ∷ l))
    go (lower k) zero e n ih = insert_lower v x l k
    go (lower k) (suc p) e n ih = absurd (omega (arith, below_none v x l (omega arith)))
    go (equal k) zero e n ih = absurd (n (omega arith) (sym k))
    go (equal k) (suc p) e n ih = absurd (omega (arith, below_none v x l (omega arith)))
    go (higher k) zero e n ih = absurd (omega (arith, below_more v x l k))
    go (higher k) (suc p) e n ih = insert_higher v x l k ∙ ap (λ t. x ∷ t) (ih p (omega (arith, below_more v x l k)) (λ h. n (omega arith)))
