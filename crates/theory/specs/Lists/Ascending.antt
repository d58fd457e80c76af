-- Strictly ascending lists: a list put in order has the same members and goes up, and two that go up with the same members are one.
use Rattle.std.specs.Prelude.{ℕ, zero, suc, ◌+◌, ◌≤◌, ◌<◌, ◌≡◌, refl, List, [], ◌∷◌, ◌++◌, ◌⊎◌, ◌↔◌, length, get_or}
use Rattle.std.proofs.Common.{sym, ap₂, subst, inl, inr, ⊎_elim, arith, eq-eqb, ne_eqb, lt-ltb, le-ltb}
use Rattle.std.proofs.Math.Decide.{ℕ_discrete, dec_lt}
use Rattle.meaning.specs.Text.{In}
use Rattle.meaning.specs.Outlook.{insert, ascending}
use Rattle.theory.specs.Lists.Members.{in_cases, at_place, placed_at}

-- each member below all behind it
abbrev pub Up : List ℕ → Type 0
Up [] = Unit {0}
Up (x ∷ l) = ((y : ℕ) → In y l → x < y) × Up l

-- one list behind another, all of whose members are higher
pub both_up : (xs ys : List ℕ) → Up xs → Up ys → ((a b : ℕ) → In a xs → In b ys → a < b) → Up (xs ++ ys)
both_up [] ys u v h = v
both_up (x ∷ xs) ys u v h = (λ y i. ⊎_elim (u.0 y) (h x y (inl refl)) (in_cases y xs ys i), both_up xs ys u.1 v (λ a b i j. h a b (inr i) j))

-- the three cases of an insertion
pub data Placing (v x : ℕ) : Type 0 where
  lower : v < x → Placing v x
  equal : v ≡ x → Placing v x
  higher : x < v → Placing v x

pub placing : (v x : ℕ) → Placing v x
placing v x = go (dec_lt v x) (ℕ_discrete v x)
  where
    go : Dec (v < x) → Dec (v ≡ x) → Placing v x
    go (yes h) d = lower h
    go (no h) (yes e) = equal e
    go (no h) (no e) = higher (omega arith)

pub insert_lower : (v x : ℕ) (l : List ℕ) → v < x → insert v (x ∷ l) ≡ v ∷ x ∷ l
unfolding insert
insert_lower v x l h = rw (lt-ltb v x h, insert)

pub insert_equal : (v x : ℕ) (l : List ℕ) → v ≡ x → insert v (x ∷ l) ≡ x ∷ l
unfolding insert
insert_equal v x l e = rw (le-ltb v x (omega arith), insert) (rw (eq-eqb v x e))

pub insert_higher : (v x : ℕ) (l : List ℕ) → x < v → insert v (x ∷ l) ≡ x ∷ insert v l
unfolding insert
insert_higher v x l h = rw (le-ltb v x (omega arith), insert) (rw (ne_eqb v x (λ e. omega arith)))

pub insert_new : (v : ℕ) (l : List ℕ) → In v (insert v l)
unfolding insert
insert_new v [] = inl refl
insert_new v (x ∷ l) = go (placing v x) (insert_new v l)
  where
    go : Placing v x → In v (insert v l) → In v (insert v (x ∷ l))
    go (lower h) ih = rw (insert_lower v x l h) (inl refl)
    go (equal e) ih = rw (insert_equal v x l e) (inl e)
    go (higher h) ih = rw (insert_higher v x l h) (inr ih)

pub insert_old : (v p : ℕ) (l : List ℕ) → In p l → In p (insert v l)
unfolding insert
insert_old v p [] h = absurd h
insert_old v p (x ∷ l) h = go (placing v x) h (insert_old v p l)
  where
    go : Placing v x → In p (x ∷ l) → (In p l → In p (insert v l)) → In p (insert v (x ∷ l))
    go (lower g) h ih = rw (insert_lower v x l g) (inr h)
    go (equal e) h ih = rw (insert_equal v x l e) h
    go (higher g) (inl e) ih = rw (insert_higher v x l g) (inl e)
    go (higher g) (inr h) ih = rw (insert_higher v x l g) (inr (ih h))

pub insert_only : (v p : ℕ) (l : List ℕ) → In p (insert v l) → (p ≡ v) ⊎ In p l
unfolding insert
insert_only v p [] h = h
insert_only v p (x ∷ l) h = go (placing v x) (insert_only v p l)
  where
    later : (p ≡ x) ⊎ In p (insert v l) → (In p (insert v l) → (p ≡ v) ⊎ In p l) → (p ≡ v) ⊎ In p (x ∷ l)
    later (inl e) ih = inr (inl e)
    later (inr k) ih = ⊎_elim (λ e. inl e) (λ i. inr (inr i)) (ih k)

    go : Placing v x → (In p (insert v l) → (p ≡ v) ⊎ In p l) → (p ≡ v) ⊎ In p (x ∷ l)
    go (lower g) ih = rw (insert_lower v x l g) at h
    go (equal e) ih = inr (rw (insert_equal v x l e) at h)
    go (higher g) ih = later (rw (insert_higher v x l g) at h) ih

pub insert_up : (v : ℕ) (l : List ℕ) → Up l → Up (insert v l)
unfolding insert
insert_up v [] u = (λ y h. absurd h, tt)
insert_up v (x ∷ l) u = go (placing v x) (insert_up v l u.1)
  where
    go : Placing v x → Up (insert v l) → Up (insert v (x ∷ l))
    go (lower g) ih = rw (insert_lower v x l g) (λ y h. ⊎_elim (λ e. subst (λ w. v < w) (sym e) g) (λ k. let z = u.0 y k in omega arith) h, u)
    go (equal e) ih = rw (insert_equal v x l e) u
    go (higher g) ih = rw (insert_higher v x l g) (λ y h. ⊎_elim (λ e. subst (λ w. x < w) (sym e) g) (λ k. u.0 y k) (insert_only v y l h), ih)

-- a list put in order has the same members, and goes up
pub ascending_old : (p : ℕ) (l : List ℕ) → In p l → In p (ascending l)
unfolding ascending
ascending_old p [] h = h
ascending_old p (x ∷ l) (inl e) = rw e (insert_new x (ascending l))
ascending_old p (x ∷ l) (inr h) = insert_old x p (ascending l) (ascending_old p l h)

pub ascending_only : (p : ℕ) (l : List ℕ) → In p (ascending l) → In p l
unfolding ascending
ascending_only p [] h = h
ascending_only p (x ∷ l) h = ⊎_elim (λ e. inl e) (λ k. inr (ascending_only p l k)) (insert_only x p (ascending l) h)

pub ascending_up : (l : List ℕ) → Up (ascending l)
unfolding ascending
ascending_up [] = tt
ascending_up (x ∷ l) = insert_up x (ascending l) (ascending_up l)

pub up_places : (l : List ℕ) → Up l → (i j : ℕ) → i < j → j < length l → get_or l i 0 < get_or l j 0
up_places [] u i j h g = absurd (omega arith)
up_places (x ∷ l) u i zero h g = absurd (omega arith)
up_places (x ∷ l) u zero (suc j) h g = u.0 (get_or l j 0) (at_place l j (omega arith))
up_places (x ∷ l) u (suc i) (suc j) h g = up_places l u.1 i j (omega arith) (omega arith)

-- the first member of such a list is the least
pub up_from : (l : List ℕ) → ((i j : ℕ) → i < j → j < length l → get_or l i 0 < get_or l j 0) → Up l
up_from [] h = tt
up_from (x ∷ l) h = (
  λ y m. let (i, b, e) = placed_at l y m in rw (← e) (h 0 (suc i) (omega arith) (omega arith)),
  up_from l
      (λ i j a b. h (suc i) (suc j) (omega arith) (omega arith)),
)

-- two lists that go up and have the same members are equal
pub up_equal : (l k : List ℕ) → Up l → Up k → ((p : ℕ) → In p l ↔ In p k) → l ≡ k
up_equal [] [] u v same = refl
up_equal [] (y ∷ k) u v same = absurd ((same y).1 (inl refl))
up_equal (x ∷ l) [] u v same = absurd ((same x).0 (inl refl))
up_equal (x ∷ l) (y ∷ k) u v same = ap₂ (λ a r. a ∷ r) head (up_equal l k u.1 v.1 (λ p. (forth p, back p)))
  where
    head : x ≡ y
    head = go ((same x).0 (inl refl)) ((same y).1 (inl refl))
      where
        go : In x (y ∷ k) → In y (x ∷ l) → x ≡ y
        go (inl e) b = e
        go (inr m) (inl e) = sym e
        go (inr m) (inr n) = let a = v.0 x m in let b = u.0 y n in absurd (omega arith)

    forth : (p : ℕ) → In p l → In p k
    forth p m = go ((same p).0 (inr m))
      where
        go : In p (y ∷ k) → In p k
        go (inl e) = let a = u.0 p m in absurd (omega (arith, head))
        go (inr n) = n

    back : (p : ℕ) → In p k → In p l
    back p m = go ((same p).1 (inr m))
      where
        go : In p (x ∷ l) → In p l
        go (inl e) = let a = v.0 p m in absurd (omega (arith, head))
        go (inr n) = n

-- HOW LONG IT GETS

-- a number put in makes a list longer by one at most
pub insert_grows : (v : ℕ) (l : List ℕ) → (length l ≤ length (insert v l)) × (length (insert v l) ≤ length l + 1)
unfolding insert
insert_grows v [] = (omega arith, omega arith)
insert_grows v (x ∷ l) = go (placing v x) (insert_grows v l)
  where
    go : Placing v x → (length l ≤ length (insert v l)) × (length (insert v l) ≤ length l + 1)
        → (length (x ∷ l) ≤ length (insert v (x ∷ l))) × (length (insert v (x ∷ l)) ≤ length (x ∷ l) + 1)
    go (lower h) ih = rw (insert_lower v x l h) (omega arith, omega arith)
    go (equal h) ih = rw (insert_equal v x l h) (omega arith, omega arith)
    go (higher h) ih = rw (insert_higher v x l h) (omega (arith, ih.0), omega (arith, ih.1))

-- so the members of a list, once, are no more than it has
pub ascending_few : (l : List ℕ) → length (ascending l) ≤ length l
unfolding ascending
ascending_few [] = omega arith
ascending_few (x ∷ l) = omega (arith, ascending_few l, (insert_grows x (ascending l)).1)
