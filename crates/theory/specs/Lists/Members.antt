-- Members of lists: what appending, mapping, joining and keeping do to them, members by their places, and runs of members set.
use Rattle.std.specs.Prelude.{ℕ, zero, suc, ◌+◌, ◌≤◌, ◌<◌, Bool, not, ◌&&◌, ◌||◌, ◌⊎◌, eqb, length, drop, take, get_or, set}
use Rattle.std.proofs.Math.Path.{◌≡◌, refl, sym, ap, ap₂}
use Rattle.std.proofs.Common.{◌∙◌, subst, true≢false, arith, add-zero, zero-add, add-suc, suc-add, eq-eqb, ne_eqb, eqb-true}
use Rattle.std.proofs.Math.Bool.{true, false}
use Rattle.std.proofs.lemmas.Bool.{false≢true, eqb-false}
use mathlib.Core.List.{List, [], ◌∷◌, ◌++◌, map, map-append, append_assoc, append-nil}
use Rattle.std.proofs.Math.Logic.{inl, inr, ⊎_elim}
use Rattle.std.proofs.Math.Decide.{ℕ_discrete}
use Rattle.std.proofs.lemmas.List.Edits.{sets}
use Rattle.std.proofs.lemmas.List.{take-set-le}
use Rattle.meaning.specs.Text.{In, any, keep, joined, is_in, from}
use Rattle.meaning.specs.Graph.{without}

module _ {A : Type 0} where
  pub in_left : (a : A) (xs ys : List A) → In a xs → In a (xs ++ ys)
  in_left a [] ys h = absurd h
  in_left a (x ∷ xs) ys (inl e) = inl e
  in_left a (x ∷ xs) ys (inr h) = inr (in_left a xs ys h)

  pub in_right : (a : A) (xs ys : List A) → In a ys → In a (xs ++ ys)
  in_right a [] ys h = h
  in_right a (x ∷ xs) ys h = inr (in_right a xs ys h)

  -- a list with a member is not empty
  pub in_some : (a : A) (xs : List A) → In a xs → 1 ≤ length xs
  in_some a [] h = absurd h
  in_some a (x ∷ xs) h = omega arith

  pub in_cases : (a : A) (xs ys : List A) → In a (xs ++ ys) → In a xs ⊎ In a ys
  in_cases a [] ys h = inr h
  in_cases a (x ∷ xs) ys (inl e) = inl (inl e)
  in_cases a (x ∷ xs) ys (inr h) = ⊎_elim (λ k. inl (inr k)) (λ k. inr k) (in_cases a xs ys h)

module _ {A B : Type 0} where
  pub in_map : (f : A → B) (a : A) (xs : List A) → In a xs → In (f a) (map f xs)
  in_map f a [] h = absurd h
  in_map f a (x ∷ xs) (inl e) = inl (ap f e)
  in_map f a (x ∷ xs) (inr h) = inr (in_map f a xs h)

  pub map_in : (f : A → B) (b : B) (xs : List A) → In b (map f xs) → (a : A) × In a xs × (b ≡ f a)
  map_in f b [] h = absurd h
  map_in f b (x ∷ xs) (inl e) = (x, inl refl, e)
  map_in f b (x ∷ xs) (inr h) = let (a, k, e) = map_in f b xs h in (a, inr k, e)

  pub in_joined : (f : A → List B) (a : A) (b : B) (xs : List A) → In a xs → In b (f a) → In b (joined f xs)
  unfolding joined
  in_joined f a b [] h k = absurd h
  in_joined f a b (x ∷ xs) (inl e) k = in_left b (f x) (joined f xs) (subst (λ w. In b (f w)) e k)
  in_joined f a b (x ∷ xs) (inr h) k = in_right b (f x) (joined f xs) (in_joined f a b xs h k)

  pub joined_in : (f : A → List B) (b : B) (xs : List A) → In b (joined f xs) → (a : A) × In a xs × In b (f a)
  unfolding joined
  joined_in f b [] h = absurd h
  joined_in f b (x ∷ xs) h =
      ⊎_elim (λ k. (x, inl refl, k)) (λ k. let (a, i, j) = joined_in f b xs k in (a, inr i, j)) (in_cases b (f x) (joined f xs) h)

  -- of two lists, of one member, and of one member more
  pub joined_both : (f : A → List B) (xs ys : List A) → joined f (xs ++ ys) ≡ joined f xs ++ joined f ys
  unfolding joined
  joined_both f [] ys = refl
  joined_both f (x ∷ xs) ys = ap (λ l. f x ++ l) (joined_both f xs ys) ∙ sym (append_assoc (f x) (joined f xs) (joined f ys))

  pub joined_one : (f : A → List B) (x : A) → joined f (x ∷ []) ≡ f x
  unfolding joined
  joined_one f x = append-nil (f x)

  pub joined_more : (f : A → List B) (xs : List A) (a : A) → joined f (xs ++ (a ∷ [])) ≡ joined f xs ++ f a
  joined_more f xs a = joined_both f xs (a ∷ []) ∙ ap (λ l. joined f xs ++ l) (joined_one f a)

  -- functions that agree on the members
  pub map_same : (f g : A → B) (xs : List A) → ((x : A) → In x xs → f x ≡ g x) → map f xs ≡ map g xs
  map_same f g [] h = refl
  map_same f g (x ∷ xs) h = ap₂ (λ a l. a ∷ l) (h x (inl refl)) (map_same f g xs (λ y i. h y (inr i)))

  pub map_set : (f : A → B) (xs : List A) (i : ℕ) (a : A) → map f (set xs i a) ≡ set (map f xs) i (f a)
  map_set f [] i a = refl
  map_set f (x ∷ xs) zero a = refl
  map_set f (x ∷ xs) (suc i) a = ap (λ l. f x ∷ l) (map_set f xs i a)

  pub joined_same : (f g : A → List B) (xs : List A) → ((x : A) → In x xs → f x ≡ g x) → joined f xs ≡ joined g xs
  unfolding joined
  joined_same f g [] h = refl
  joined_same f g (x ∷ xs) h = ap₂ (λ a b. a ++ b) (h x (inl refl)) (joined_same f g xs (λ y i. h y (inr i)))

-- mapped and joined, joined and mapped, joined twice
module _ {A B C : Type 0} where
  pub joined_map : (g : B → List C) (f : A → B) (xs : List A) → joined g (map f xs) ≡ joined (λ x. g (f x)) xs
  unfolding joined
  joined_map g f [] = refl
  joined_map g f (x ∷ xs) = ap (λ l. g (f x) ++ l) (joined_map g f xs)

  pub map_joined : (g : B → C) (f : A → List B) (xs : List A) → map g (joined f xs) ≡ joined (λ x. map g (f x)) xs
  unfolding joined
  map_joined g f [] = refl
  map_joined g f (x ∷ xs) = map-append g (f x) (joined f xs) ∙ ap (λ l. map g (f x) ++ l) (map_joined g f xs)

  pub joined_twice : (g : B → List C) (f : A → List B) (xs : List A) → joined g (joined f xs) ≡ joined (λ x. joined g (f x)) xs
  unfolding joined
  joined_twice g f [] = refl
  joined_twice g f (x ∷ xs) = joined_both g (f x) (joined f xs) ∙ ap (λ l. joined g (f x) ++ l) (joined_twice g f xs)

-- the members that pass a test, and whether some member does
module _ {A : Type 0} (p : A → Bool) where
  pub in_keep : (a : A) (xs : List A) → In a xs → p a ≡ true → In a (keep p xs)
  unfolding keep
  in_keep a [] h t = h
  in_keep a (x ∷ xs) h t = go (p x) refl h (λ k. in_keep a xs k t)
    where
      go : (b : Bool) → p x ≡ b → In a (x ∷ xs) → (In a xs → In a (keep p xs)) → In a (elim b [ true ↦ x ∷ keep p xs | false ↦ keep p xs ])
      go true e (inl q) ih = inl q
      go true e (inr k) ih = inr (ih k)
      go false e (inl q) ih = absurd (false≢true (sym e ∙ ap p (sym q) ∙ t))
      go false e (inr k) ih = ih k

  pub keep_in : (a : A) (xs : List A) → In a (keep p xs) → In a xs × (p a ≡ true)
  unfolding keep
  keep_in a [] h = absurd h
  keep_in a (x ∷ xs) h = go (p x) refl h (keep_in a xs)
    where
      go : (b : Bool) → p x ≡ b → In a (elim b [ true ↦ x ∷ keep p xs | false ↦ keep p xs ]) → (In a (keep p xs) → In a xs × (p a ≡ true))
          → In a (x ∷ xs) × (p a ≡ true)
      go true e (inl q) ih = (inl q, ap p q ∙ e)
      go true e (inr k) ih = (inr (ih k).0, (ih k).1)
      go false e k ih = (inr (ih k).0, (ih k).1)

  -- of two lists, where all pass, and where none does
  pub keep_append : (xs ys : List A) → keep p (xs ++ ys) ≡ keep p xs ++ keep p ys
  unfolding keep
  keep_append [] ys = refl
  keep_append (x ∷ xs) ys = go (p x) (keep_append xs ys)
    where
      go : (b : Bool) → keep p (xs ++ ys) ≡ keep p xs ++ keep p ys
          → ◌≡◌ {A = List A} (elim b [ true ↦ x ∷ keep p (xs ++ ys) | false ↦ keep p (xs ++ ys) ])
          ((elim b [ true ↦ x ∷ keep p xs | false ↦ keep p xs ]) ++ keep p ys)
      go true e = ap (λ l. x ∷ l) e
      go false e = e

  pub keep_all : (xs : List A) → ((a : A) → In a xs → p a ≡ true) → keep p xs ≡ xs
  unfolding keep
  keep_all [] h = refl
  keep_all (x ∷ xs) h = rw (h x (inl refl), keep) (ap (λ l. x ∷ l) (keep_all xs (λ a i. h a (inr i))))

  pub keep_none : (xs : List A) → ((a : A) → In a xs → p a ≡ false) → keep p xs ≡ []
  unfolding keep
  keep_none [] h = refl
  keep_none (x ∷ xs) h = rw (h x (inl refl), keep) (keep_none xs (λ a i. h a (inr i)))

  pub in_any : (a : A) (xs : List A) → In a xs → p a ≡ true → any p xs ≡ true
  unfolding any
  in_any a [] h t = absurd h
  in_any a (x ∷ xs) (inl e) t = rw (← e, t)
  in_any a (x ∷ xs) (inr h) t = go (p x) (in_any a xs h t)
    where
      go : (b : Bool) → any p xs ≡ true → b || any p xs ≡ true
      go true e = refl
      go false e = e

  pub any_in : (xs : List A) → any p xs ≡ true → (a : A) × In a xs × (p a ≡ true)
  unfolding any
  any_in [] t = absurd (false≢true t)
  any_in (x ∷ xs) t = go (p x) refl t (any_in xs)
    where
      go : (b : Bool) → p x ≡ b → b || any p xs ≡ true → (any p xs ≡ true → (a : A) × In a xs × (p a ≡ true)) → (a : A) × In a (x ∷ xs) × (p a ≡ true)
      go true e t ih = (x, inl refl, e)
      go false e t ih = let (a, k, q) = ih t in (a, inr k, q)

-- what is kept of lists joined
pub keep_joined : {A B : Type 0} (p : B → Bool) (f : A → List B) (xs : List A) → keep p (joined f xs) ≡ joined (λ x. keep p (f x)) xs
unfolding keep joined
keep_joined p f [] = refl
keep_joined p f (x ∷ xs) = keep_append p (f x) (joined f xs) ∙ ap (λ l. keep p (f x) ++ l) (keep_joined p f xs)

-- tests that agree on the members
pub any_same : {A : Type 0} (p q : A → Bool) (xs : List A) → ((a : A) → In a xs → p a ≡ q a) → any p xs ≡ any q xs
unfolding any
any_same p q [] h = refl
any_same p q (x ∷ xs) h = ap₂ ◌||◌ (h x (inl refl)) (any_same p q xs (λ a k. h a (inr k)))

pub keep_same : {A : Type 0} (p q : A → Bool) (xs : List A) → ((a : A) → In a xs → p a ≡ q a) → keep p xs ≡ keep q xs
unfolding keep
keep_same p q [] h = refl
keep_same p q (x ∷ xs) h = ap₂ (λ b l. elim b [ true ↦ x ∷ l | false ↦ l ]) (h x (inl refl)) (keep_same p q xs (λ a k. h a (inr k)))

-- tests and statements
pub is_in_lem : (i : ℕ) (l : List ℕ) → is_in i l ≡ true → In i l
unfolding any
is_in_lem i [] t = false≢true t
is_in_lem i (x ∷ l) t = go (eqb i x) refl t (is_in_lem i l)
  where
    go : (b : Bool) → eqb i x ≡ b → b || any (eqb i) l ≡ true → (any (eqb i) l ≡ true → In i l) → In i (x ∷ l)
    go true e t ih = inl (eqb-true i x e)
    go false e t ih = inr (ih t)

-- a common member, found by the test
pub common : (ps left : List ℕ) → any (λ p. is_in p left) ps ≡ true → (p : ℕ) × In p left × (is_in p ps ≡ true)
unfolding any
common [] left t = absurd (false≢true t)
common (q ∷ ps) left t = go (is_in q left) refl t (common ps left)
  where
    wider : (b : Bool) → b || true ≡ true
    wider true = refl
    wider false = refl

    go : (b : Bool) → is_in q left ≡ b → b || any (λ p. is_in p left) ps ≡ true
        → (any (λ p. is_in p left) ps ≡ true → (p : ℕ) × In p left × (is_in p ps ≡ true)) → (p : ℕ) × In p left × (eqb p q || is_in p ps ≡ true)
    go true e t ih = (q, is_in_lem q left e, rw (eq-eqb q q refl))
    go false e t ih = let (p, m, l) = ih t in (p, m, rw l (wider (eqb p q)))

pub in_is : (i : ℕ) (l : List ℕ) → In i l → is_in i l ≡ true
unfolding any
in_is i [] m = absurd m
in_is i (x ∷ l) (inl e) = rw (eq-eqb i x e)
in_is i (x ∷ l) (inr m) = go (eqb i x) (in_is i l m)
  where
    go : (b : Bool) → any (eqb i) l ≡ true → b || any (eqb i) l ≡ true
    go true t = refl
    go false t = t

pub apart : (ps left : List ℕ) → any (λ p. is_in p left) ps ≡ false → (p : ℕ) → In p left → In p ps → ⊥
unfolding any
apart [] left t p m h = h
apart (q ∷ ps) left t p m (inl e) = go (is_in q left) (subst (λ w. is_in w left ≡ true) e (in_is p left m)) t
  where
    go : (b : Bool) → b ≡ true → b || any (λ p. is_in p left) ps ≡ false → ⊥
    go true e t = true≢false t
    go false e t = false≢true e
apart (q ∷ ps) left t p m (inr h) = apart ps left (go (is_in q left) t) p m h
  where
    go : (b : Bool) → b || any (λ p. is_in p left) ps ≡ false → any (λ p. is_in p left) ps ≡ false
    go true t = absurd (true≢false t)
    go false t = t

-- what is left without k
pub in_without : (i k : ℕ) (l : List ℕ) → In i l → (i ≡ k → ⊥) → In i (without k l)
unfolding without keep
in_without i k [] m ne = m
in_without i k (x ∷ l) m ne = go (eqb x k) refl m (λ h. in_without i k l h ne)
  where
    go : (b : Bool) → eqb x k ≡ b → In i (x ∷ l) → (In i l → In i (without k l))
        → In i (elim (not b) [ true ↦ x ∷ keep (λ j. not (eqb j k)) l | false ↦ keep (λ j. not (eqb j k)) l ])
    go true e (inl h) ih = absurd (ne (h ∙ eqb-true x k e))
    go true e (inr h) ih = ih h
    go false e (inl h) ih = inl h
    go false e (inr h) ih = inr (ih h)

pub without_in : (i k : ℕ) (l : List ℕ) → In i (without k l) → In i l × (i ≡ k → ⊥)
unfolding without keep
without_in i k [] m = absurd m
without_in i k (x ∷ l) m = go (eqb x k) refl m (without_in i k l)
  where
    go : (b : Bool) → eqb x k ≡ b → In i (elim (not b) [ true ↦ x ∷ keep (λ j. not (eqb j k)) l | false ↦ keep (λ j. not (eqb j k)) l ])
        → (In i (without k l) → In i l × (i ≡ k → ⊥)) → In i (x ∷ l) × (i ≡ k → ⊥)
    go true e m ih = (inr (ih m).0, (ih m).1)
    go false e (inl h) ih = (inl h, λ q. eqb-false x k e (sym h ∙ q))
    go false e (inr m) ih = (inr (ih m).0, (ih m).1)

-- no member twice
abbrev pub Once : {A : Type 0} → List A → Type 0
Once [] = Unit {0}
Once (x ∷ l) = (In x l → ⊥) × Once l

-- one more that is not yet there
pub once_more : {A : Type 0} (xs : List A) (a : A) → Once xs → (In a xs → ⊥) → Once (xs ++ (a ∷ []))
once_more [] a d h = (λ m. m, tt)
once_more (x ∷ xs) a d h = (λ m. ⊎_elim d.0 (⊎_elim (λ e. h (inl (sym e))) absurd) (in_cases x xs (a ∷ []) m), once_more xs a d.1 (λ m. h (inr m)))

pub once_without : (k : ℕ) (l : List ℕ) → Once l → Once (without k l)
unfolding without keep
once_without k [] o = tt
once_without k (x ∷ l) o = go (eqb x k) (once_without k l o.1)
  where
    go : (b : Bool) → Once (without k l) → Once {A = ℕ} (elim (not b) [ true ↦ x ∷ keep (λ j. not (eqb j k)) l | false ↦ keep (λ j. not (eqb j k)) l ])
    go true h = h
    go false h = (λ m. o.0 (without_in x k l m).0, h)

pub length_absent : (k : ℕ) (l : List ℕ) → (In k l → ⊥) → length (without k l) ≡ length l
unfolding without keep
length_absent k [] n = refl
length_absent k (x ∷ l) n = go (eqb x k) refl (length_absent k l (λ m. n (inr m)))
  where
    go : (b : Bool) → eqb x k ≡ b → length (without k l) ≡ length l
        → length {A = ℕ} (elim (not b) [ true ↦ x ∷ keep (λ j. not (eqb j k)) l | false ↦ keep (λ j. not (eqb j k)) l ]) ≡ suc (length l)
    go true e h = absurd (n (inl (sym (eqb-true x k e))))
    go false e h = ap suc h

pub length_without : (k : ℕ) (l : List ℕ) → Once l → In k l → suc (length (without k l)) ≡ length l
unfolding without keep
length_without k [] o m = absurd m
length_without k (x ∷ l) o m = go (eqb x k) refl m (length_without k l o.1)
  where
    go : (b : Bool) → eqb x k ≡ b → In k (x ∷ l) → (In k l → suc (length (without k l)) ≡ length l)
        → suc (length {A = ℕ} (elim (not b) [ true ↦ x ∷ keep (λ j. not (eqb j k)) l | false ↦ keep (λ j. not (eqb j k)) l ])) ≡ suc (length l)
    go true e m ih = ap suc (length_absent k l (λ h. o.0 (subst (λ w. In w l) (sym (eqb-true x k e)) h)))
    go false e (inl q) ih = absurd (eqb-false x k e (sym q))
    go false e (inr h) ih = ap suc (ih h)

-- the numbers from i on
pub from_in : (n i k : ℕ) → In k (from i n) → (i ≤ k) × (k < i + n)
unfolding from
from_in zero i k m = absurd m
from_in (suc n) i k (inl e) = (omega arith, omega arith)
from_in (suc n) i k (inr m) = let h = from_in n (suc i) k m in (omega (arith, h.0), omega (arith, h.1))

pub in_from : (n i k : ℕ) → i ≤ k → k < i + n → In k (from i n)
unfolding from
in_from zero i k h g = absurd (omega arith)
in_from (suc n) i k h g = go (ℕ_discrete k i) (in_from n (suc i) k)
  where
    go : Dec (k ≡ i) → (suc i ≤ k → k < suc i + n → In k (from (suc i) n)) → In k (i ∷ from (suc i) n)
    go (yes e) ih = inl e
    go (no ne) ih = inr (ih (omega arith) (omega arith))

-- nothing is joined where no member gives anything
pub joined_none : {A B : Type 0} (f : A → List B) (xs : List A) → ((x : A) → In x xs → f x ≡ []) → joined f xs ≡ []
unfolding joined
joined_none f [] h = refl
joined_none f (x ∷ xs) h = rw (h x (inl refl)) (joined_none f xs (λ y i. h y (inr i)))

-- and of the numbers from i on what one gives, where no other gives anything
pub joined_only : {B : Type 0} (f : ℕ → List B) (x n i : ℕ) → i ≤ x → x < i + n → ((y : ℕ) → In y (from i n) → (y ≡ x → ⊥) → f y ≡ [])
    → joined f (from i n) ≡ f x
unfolding joined from
joined_only f x zero i a b h = absurd (omega arith)
joined_only f x (suc n) i a b h = go (ℕ_discrete i x) (joined_only f x n (suc i))
  where
    rest : i ≡ x → (y : ℕ) → In y (from (suc i) n) → f y ≡ []
    rest e y k = let (l, g) = from_in n (suc i) y k in h y (inr k) (λ q. omega arith)

    go : Dec (i ≡ x) → (suc i ≤ x → x < suc i + n → ((y : ℕ) → In y (from (suc i) n) → (y ≡ x → ⊥) → f y ≡ []) → joined f (from (suc i) n) ≡ f x)
        → f i ++ joined f (from (suc i) n) ≡ f x
    go (yes e) ih = ap (λ l. f i ++ l) (joined_none f (from (suc i) n) (rest e)) ∙ append-nil (f i) ∙ ap f e
    go (no q) ih = ap (λ l. l ++ joined f (from (suc i) n)) (h i (inl refl) q) ∙ ih (omega arith) (omega arith) (λ y k. h y (inr k))

-- a test that no number below n fails where p holds
pub every : (n : ℕ) (p q : ℕ → Bool) → any (λ x. p x && not (q x)) (from 0 n) ≡ false → (x : ℕ) → x < n → p x ≡ true → q x ≡ true
every n p q e x h t = go (q x) refl
  where
    go : (b : Bool) → q x ≡ b → q x ≡ true
    go true z = z
    go false z = absurd (true≢false (sym (in_any (λ x. p x && not (q x)) x (from 0 n) (in_from n 0 x (omega arith) (omega arith)) (rw (t, z))) ∙ e))

pub from_once : (n i : ℕ) → Once (from i n)
unfolding from
from_once zero i = tt
from_once (suc n) i = (λ m. let h : suc i ≤ i = (from_in n (suc i) i m).0 in omega arith, from_once n (suc i))

pub from_length : (n i : ℕ) → length (from i n) ≡ n
unfolding from
from_length zero i = refl
from_length (suc n) i = ap suc (from_length n (suc i))

-- what is made of the number at a place
pub from_get : {A : Type 0} (f : ℕ → A) (d : A) (n i x : ℕ) → x < n → get_or (map f (from i n)) x d ≡ f (i + x)
unfolding from
from_get f d zero i x h = absurd (omega arith)
from_get f d (suc n) i zero h = let z : i + 0 ≡ i = omega arith in rw z
from_get f d (suc n) i (suc x) h = let z : i + suc x ≡ suc i + x = omega arith in rw z (from_get f d n (suc i) x (omega arith))

pub from_both : (i n m : ℕ) → from i (n + m) ≡ from i n ++ from (i + n) m
unfolding from
from_both i zero m = rw (zero-add, add-zero)
from_both i (suc n) m = let z : suc i + n ≡ i + suc n = omega arith in rw suc-add (ap (λ l. i ∷ l) (rw z at (from_both (suc i) n m)))

-- members by their places
pub placed_at : (o : List ℕ) (k : ℕ) → In k o → (i : ℕ) × (i < length o) × (get_or o i 0 ≡ k)
placed_at [] k m = absurd m
placed_at (x ∷ o) k (inl e) = (0, omega arith, sym e)
placed_at (x ∷ o) k (inr m) = let (i, h, e) = placed_at o k m in (suc i, omega arith, e)

pub at_place : (o : List ℕ) (i : ℕ) → i < length o → In (get_or o i 0) o
at_place [] i h = absurd (omega arith)
at_place (x ∷ o) zero h = inl refl
at_place (x ∷ o) (suc i) h = inr (at_place o i (omega arith))

-- no member twice: each at one place
pub once_places : (o : List ℕ) → Once o → (i j : ℕ) → i < length o → j < length o → get_or o i 0 ≡ get_or o j 0 → i ≡ j
once_places [] u i j h g e = absurd (omega arith)
once_places (x ∷ o) u zero zero h g e = refl
once_places (x ∷ o) u zero (suc j) h g e = absurd (u.0 (subst (λ w. In w o) (sym e) (at_place o j (omega arith))))
once_places (x ∷ o) u (suc i) zero h g e = absurd (u.0 (subst (λ w. In w o) e (at_place o i (omega arith))))
once_places (x ∷ o) u (suc i) (suc j) h g e = ap suc (once_places o u.1 i j (omega arith) (omega arith) e)

-- different numbers below m are at most m
pub few_below : (m : ℕ) (l : List ℕ) → Once l → ((k : ℕ) → In k l → k < m) → length l ≤ m
few_below zero [] u h = omega arith
few_below zero (x ∷ l) u h = absurd (omega (arith, h x (inl refl)))
few_below (suc m) l u h = go (is_in m l) refl (few_below m)
  where
    below : (k : ℕ) → k < suc m → (k ≡ m → ⊥) → k < m
    below k g ne = omega arith

    go : (b : Bool) → is_in m l ≡ b → ((k : List ℕ) → Once k → ((i : ℕ) → In i k → i < m) → length k ≤ m) → length l ≤ suc m
    go true e ih =
        let r = ih (without m l) (once_without m l u) (λ k i. let (j, ne) = without_in k m l i in below k (h k j) ne) in
        omega (arith, length_without m l u (is_in_lem m l e), r)
    go false e ih = omega (arith, ih l u (λ k i. below k (h k i) (λ z. true≢false (sym (subst (λ w. is_in w l ≡ true) z (in_is k l i)) ∙ e))))

-- a member of a list with one place set
pub set_in : {A : Type 0} (xs : List A) (i : ℕ) (a x : A) → In x (set xs i a) → (x ≡ a) ⊎ In x xs
set_in [] i a x h = absurd h
set_in (y ∷ xs) zero a x (inl e) = inl e
set_in (y ∷ xs) zero a x (inr h) = inr (inr h)
set_in (y ∷ xs) (suc i) a x (inl e) = inr (inl e)
set_in (y ∷ xs) (suc i) a x (inr h) = ⊎_elim (λ e. inl e) (λ k. inr (inr k)) (set_in xs i a x h)

-- members set behind members that were set
pub sets_append : (xs ys l : List ℕ) (i : ℕ) → sets (sets l i xs) (i + length xs) ys ≡ sets l i (xs ++ ys)
sets_append [] ys l i = rw add-zero
sets_append (x ∷ xs) ys l i = rw (add-suc i (length xs), ← suc-add i (length xs)) (sets_append xs ys (set l i x) (suc i))

-- those below are as they were
pub take_sets : (n : ℕ) (xs l : List ℕ) (i : ℕ) → n ≤ i → take n (sets l i xs) ≡ take n l
take_sets n [] l i h = refl
take_sets n (x ∷ xs) l i h = take_sets n xs (set l i x) (suc i) (omega arith) ∙ take-set-le n l i x h

-- TESTS OF NUMBERS

-- two that tell the same
pub eqb_alike : (a b c d : ℕ) → (a ≡ b → c ≡ d) → (c ≡ d → a ≡ b) → eqb a b ≡ eqb c d
eqb_alike a b c d h g = go (ℕ_discrete c d)
  where
    go : Dec (c ≡ d) → eqb a b ≡ eqb c d
    go (yes e) = eq-eqb a b (g e) ∙ sym (eq-eqb c d e)
    go (no e) = ne_eqb a b (λ q. e (h q)) ∙ sym (ne_eqb c d e)

-- a map over some members from the first on, and over what is left behind some
pub map_take : {A B : Type 0} (f : A → B) (n : ℕ) (xs : List A) → take n (map f xs) ≡ map f (take n xs)
map_take f zero xs = refl
map_take f (suc n) [] = refl
map_take f (suc n) (x ∷ xs) = ap (λ l. f x ∷ l) (map_take f n xs)

pub map_drop : {A B : Type 0} (f : A → B) (i : ℕ) (xs : List A) → drop i (map f xs) ≡ map f (drop i xs)
map_drop f zero xs = refl
map_drop f (suc i) [] = refl
map_drop f (suc i) (x ∷ xs) = map_drop f i xs
