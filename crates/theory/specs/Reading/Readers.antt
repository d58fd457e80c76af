-- A small logic of readers and of papers: what holds of whatever a reader gives, and what holds of whatever is taken.
use Rattle.std.specs.Prelude.{ℕ, zero, suc, ◌≡◌, Bool, true, false, length, leb}
use Rattle.std.proofs.Math.Path.{refl, ap}
use Rattle.std.proofs.Common.{sym, ap₂, subst, subst₂, inl, inr}
use Rattle.std.proofs.lemmas.Bool.{false≢true}
use mathlib.Core.List.{List, [], ◌∷◌, map}
use Rattle.meaning.specs.Text.{In}
use Rattle.meaning.specs.Refusal.{Answer, taken, refused, on_taken}
use Rattle.meaning.specs.Reading.{Got, got, wrong, Reader, after, give, refuse, choose, demand, each, stands, answered, paper}
use Rattle.meaning.specs.ReadSheet.{section}

-- WHAT WAS GOT

-- what was got, if anything, and the rest behind it satisfy P
pub record Yields {A : Type 0} (x : Got A) (P : A → List ℕ → Type 0) : Type 0 where
  pub of : (a : A) (k : ℕ) (t : List ℕ) → x ≡ got a k t → P a t

module _ {A : Type 0} where
  -- a value, not a refusal
  abbrev is_got : Got A → Bool
  is_got (got a l s) = true
  is_got (wrong n l) = false

  -- the value, or d
  abbrev value_or : A → Got A → A
  value_or d (got a l s) = a
  value_or d (wrong n l) = d

  -- the rest behind a value
  abbrev rest_of : Got A → List ℕ
  rest_of (got a l s) = s
  rest_of (wrong n l) = []

  -- a value and its rest
  pub got_yields : {P : A → List ℕ → Type 0} {a : A} {l : ℕ} {s : List ℕ} → P a s → Yields (got a l s) P
  got_yields {P} {a} {l} {s} h = record { of = λ b k t e. subst₂ P (ap (value_or a) e) (ap rest_of e) h }

  -- of a refusal there is nothing to show
  pub wrong_yields : {P : A → List ℕ → Type 0} {n l : ℕ} → Yields (wrong n l) P
  wrong_yields = record { of = λ a k t e. absurd (false≢true (ap is_got e)) }

-- what is read next
pub bind_yields : {A B : Type 0} {P : A → List ℕ → Type 0} {Q : B → List ℕ → Type 0} {x : Got A} {f : A → Reader B}
    → Yields x P → ((a : A) (k : ℕ) (t : List ℕ) → P a t → Yields (f a k t) Q) → Yields (after x f) Q
bind_yields {x = got a k t} h g = g a k t (h.of a k t refl)
bind_yields {x = wrong n l} h g = wrong_yields

-- where nothing need be known of what was got before
pub any_yields : {A B : Type 0} {Q : B → List ℕ → Type 0} {f : A → Reader B} (x : Got A) → ((a : A) (k : ℕ) (t : List ℕ) → Yields (f a k t) Q)
    → Yields (after x f) Q
any_yields x g = bind_yields {P = λ a t. Unit {0}} {x = x} (record { of = λ a k t e. tt }) λ a k t u. g a k t

-- one reader after two others
pub after_after : {A B C : Type 0} (x : Got A) (f : A → Reader B) (g : B → Reader C) → after (after x f) g ≡ after x (λ a l t. after (f a l t) g)
after_after (got a l t) f g = refl
after_after (wrong n l) f g = refl

-- WHAT A READER GIVES

-- whatever the reader gives satisfies P
pub record Ensures {A : Type 0} (r : Reader A) (P : A → Type 0) : Type 0 where
  pub gives : (l : ℕ) (s : List ℕ) → Yields (r l s) (λ a t. P a)

module _ {A : Type 0} where
  -- what is given
  pub give_ensures : {P : A → Type 0} {a : A} → P a → Ensures (give a) P
  give_ensures h = record { gives = λ l s. got_yields h }

  -- a refusal gives nothing
  pub refuse_ensures : {P : A → Type 0} {n : ℕ} → Ensures (refuse n) P
  refuse_ensures = record { gives = λ l s. wrong_yields }

  -- both readers ensure it
  pub choose_ensures : {P : A → Type 0} {r t : Reader A} (b : Bool) → Ensures r P → Ensures t P → Ensures (choose b r t) P
  choose_ensures true h g = h
  choose_ensures false h g = g

-- behind a demand its test has passed
pub demand_ensures : (n : ℕ) (b : Bool) → Ensures (demand n b) (λ u. b ≡ true)
demand_ensures n true = give_ensures refl
demand_ensures n false = refuse_ensures

-- one reader after the other
pub bind_ensures : {A B : Type 0} {P : A → Type 0} {Q : B → Type 0} {r : Reader A} {f : A → Reader B}
    → Ensures r P → ((a : A) → P a → Ensures (f a) Q) → Ensures (λ l s. after (r l s) f) Q
bind_ensures h g = record { gives = λ l s. bind_yields (h.gives l s) λ a k t p. (g a p).gives k t }

-- where nothing need be known of the first value
pub any_ensures : {A B : Type 0} {Q : B → Type 0} {f : A → Reader B} (r : Reader A) → ((a : A) → Ensures (f a) Q) → Ensures (λ l s. after (r l s) f) Q
any_ensures r g = bind_ensures {P = λ a. Unit {0}} {r = r} (record { gives = λ l s. record { of = λ a k t e. tt } }) λ a u. g a

-- what holds of what a reader gives still holds in a weaker form
pub ensures_weaker : {A : Type 0} {P Q : A → Type 0} {r : Reader A} → ((a : A) → P a → Q a) → Ensures r P → Ensures r Q
ensures_weaker h g = record { gives = λ l s. record { of = λ a k t e. h a ((g.gives l s).of a k t e) } }

-- two things ensured at once
pub ensures_both : {A : Type 0} {P Q : A → Type 0} {r : Reader A} → Ensures r P → Ensures r Q → Ensures r (λ a. P a × Q a)
ensures_both h g = record { gives = λ l s. record { of = λ a k t e. ((h.gives l s).of a k t e, (g.gives l s).of a k t e) } }

-- A READER FOR EACH MEMBER

-- two lists of one length, whose members at the same places stand in R
abbrev pub Along : {A B : Type 0} → (A → B → Type 0) → List A → List B → Type 0
Along R [] [] = Unit {0}
Along R [] (b ∷ bs) = ⊥
Along R (a ∷ xs) [] = ⊥
Along R (a ∷ xs) (b ∷ bs) = R a b × Along R xs bs

module _ {A B : Type 0} (R : A → B → Type 0) where
  -- they are equally long
  pub along_length : (xs : List A) (bs : List B) → Along R xs bs → length xs ≡ length bs
  along_length [] [] h = refl
  along_length [] (b ∷ bs) h = absurd h
  along_length (a ∷ xs) [] h = absurd h
  along_length (a ∷ xs) (b ∷ bs) h = ap suc (along_length xs bs h.1)

  -- each member of the first has its fellow in the second
  pub along_in : (xs : List A) (bs : List B) → Along R xs bs → (a : A) → In a xs → (b : B) × In b bs × R a b
  along_in [] bs h a m = absurd m
  along_in (c ∷ xs) [] h a m = absurd h
  along_in (c ∷ xs) (b ∷ bs) h a (inl e) = (b, inl refl, subst (λ w. R w b) (sym e) h.0)
  along_in (c ∷ xs) (b ∷ bs) h a (inr m) = let (d, i, r) = along_in xs bs h.1 a m in (d, inr i, r)

  -- where R says that f leads from the one to the other
  pub along_map : (f : A → B) → ((a : A) (b : B) → R a b → f a ≡ b) → (xs : List A) (bs : List B) → Along R xs bs → map f xs ≡ bs
  along_map f g [] [] h = refl
  along_map f g [] (b ∷ bs) h = absurd h
  along_map f g (a ∷ xs) [] h = absurd h
  along_map f g (a ∷ xs) (b ∷ bs) h = ap₂ (λ c r. c ∷ r) (g a b h.0) (along_map f g xs bs h.1)

-- what each reader ensures of its member holds all along
pub each_along : {A B : Type 0} {R : A → B → Type 0} {r : B → Reader A} → ((b : B) → Ensures (r b) (λ a. R a b)) → (bs : List B)
    → Ensures (each r bs) (λ xs. Along R xs bs)
unfolding each
each_along h [] = give_ensures tt
each_along h (b ∷ bs) =
    bind_ensures (h b) λ a p.
    bind_ensures (each_along h bs) λ xs q.
    give_ensures (p, q)

-- a reader for each member gives as many
pub each_length : {A B : Type 0} (r : B → Reader A) (bs : List B) → Ensures (each r bs) (λ xs. length xs ≡ length bs)
each_length {A} {B} r bs = ensures_weaker (λ xs h. along_length (λ (a : A) (b : B). Unit {0}) xs bs h)
    (each_along (λ b. record { gives = λ l s. record { of = λ a k t e. tt } }) bs)

-- A SECTION

-- Q m says what holds where there is room for m further rows: what every row keeps so, a section keeps
pub section_ensures : {A : Type 0} (Q : ℕ → A → Type 0) (key : List ℕ) (row : A → Reader A) → ((m : ℕ) (so : A) → Q (suc m) so → Ensures (row so) (Q m))
    → (room : ℕ) (so : A) → Q room so → Ensures (section key row room so) (λ a. (m : ℕ) × Q m a)
unfolding section
section_ensures Q key row h zero so q =
    any_ensures (stands key) λ more.
    choose_ensures more refuse_ensures (give_ensures (zero, q))
section_ensures Q key row h (suc room) so q =
    any_ensures (stands key) λ more.
    choose_ensures more (bind_ensures (h room so q) λ a p. section_ensures Q key row h room a p) (give_ensures (suc room, q))

-- WHOLE PAPERS

-- whatever is taken satisfies P
abbrev pub Holds : {A : Type 0} → Answer A → (A → Type 0) → Type 0
Holds {A} x P = (a : A) → x ≡ taken a → P a

module _ {A : Type 0} where
  -- taken, not refused
  abbrev is_taken : Answer A → Bool
  is_taken (taken a) = true
  is_taken (refused n p l) = false

  -- what was taken, or d
  abbrev taken_or : A → Answer A → A
  taken_or d (taken a) = a
  taken_or d (refused n p l) = d

  -- a refusal is not taken
  pub refused_taken : (n p l : ℕ) (a : A) → refused n p l ≡ taken a → ⊥
  refused_taken n p l a e = false≢true (ap is_taken e)

  -- what is taken is one thing
  pub taken_same : (a b : A) → taken a ≡ taken b → a ≡ b
  taken_same a b e = ap (taken_or a) e

  -- of what is taken
  pub taken_holds : (P : A → Type 0) (a : A) → P a → Holds (taken a) P
  taken_holds P a h b e = subst P (taken_same a b e) h

  -- of a paper that was taken: how long it is, and that its reader gave what was taken
  pub paper_read : (p limit : ℕ) (r : Reader A) (s : List ℕ) (a : A) → paper p limit r s ≡ taken a
      → (leb (length s) limit ≡ true) × ((k : ℕ) × (t : List ℕ) × (r 1 s ≡ got a k t))
  unfolding paper
  paper_read p limit r s a e = fits (leb (length s) limit) refl e
    where
      seen : (x : Got A) → answered p x ≡ taken a → (k : ℕ) × (t : List ℕ) × (x ≡ got a k t)
      seen (got b l t) e = (l, t, ap (λ c. got c l t) (taken_same b a e))
      seen (wrong n l) e = absurd (refused_taken n p l a e)

      fits : (b : Bool) → leb (length s) limit ≡ b → answered p (choose b r (λ l t. wrong 1 0) 1 s) ≡ taken a
          → (leb (length s) limit ≡ true) × ((k : ℕ) × (t : List ℕ) × (r 1 s ≡ got a k t))
      fits true q e = (q, seen (r 1 s) e)
      fits false q e = absurd (refused_taken 1 p 0 a e)

  -- of a whole paper
  pub paper_holds : (P : A → Type 0) (p limit : ℕ) (r : Reader A) (s : List ℕ) → Ensures r P → Holds (paper p limit r s) P
  paper_holds P p limit r s h a e = let (q, (k, t, g)) = paper_read p limit r s a e in (h.gives 1 s).of a k t g

-- of what is asked next
pub on_holds : {A B : Type 0} (P : A → Type 0) (Q : B → Type 0) (x : Answer A) (f : A → Answer B)
    → Holds x P → ((a : A) → P a → Holds (f a) Q) → Holds (on_taken x f) Q
on_holds P Q (taken a) f h g b e = g a (h a refl) b e
on_holds P Q (refused n p l) f h g b e = absurd (refused_taken n p l b e)
