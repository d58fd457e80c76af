-- Whatever a reader refuses with is one of the numbers of a fault in a line, 2 to 6.
use Rattle.std.specs.Prelude.{ℕ, suc, ◌≡◌, refl, Bool, true, false, cond, List, [], ◌∷◌, length, drop}
use Rattle.std.proofs.Common.{sym, ◌∙◌, ap, subst, arith}
use Rattle.meaning.specs.Text.{text, begins}
use Rattle.meaning.specs.Reading.{Got, got, wrong, Reader, after, demand, not_ended, stands, due, longest, line_end, paper_end}
use Rattle.theory.specs.Reading.Built.{Built, give_built, refuse_built, choose_built, bind_built, not_ended_built, paper_end_built, stands_built, longest_built, line_end_built, Fault, line_fault}

-- the number that was told, if any, is one of these
abbrev pub Faulty : {A : Type 0} → Got A → Type 0
Faulty (got a l s) = Unit {0}
Faulty (wrong n l) = Fault n

faulty_bind : {A B : Type 0} (x : Got A) (f : A → Reader B) → Faulty x → ((a : A) (l : ℕ) (s : List ℕ) → Faulty (f a l s)) → Faulty (after x f)
faulty_bind (got a l s) f h g = g a l s
faulty_bind (wrong n l) f h g = h

line_faulty : (n : ℕ) → Fault n → (l : ℕ) (s : List ℕ) → Faulty (line_end n l s)
unfolding line_end due not_ended stands
line_faulty n h l [] = line_fault
line_faulty n h l (x ∷ s) = go (begins (text "\n") (x ∷ s))
  where
    go : (b : Bool) → Faulty (after (after (cond b (got true l s) (got false l (x ∷ s))) (λ b. demand n b)) (λ u k t. got u (suc k) t))
    go true = tt
    go false = h

-- of every reader that is built from the pieces
pub built_faulty : {A : Type 0} {r : Reader A} → Built r → (l : ℕ) (s : List ℕ) → Faulty (r l s)
unfolding not_ended paper_end stands longest
built_faulty give_built l s = tt
built_faulty (refuse_built h) l s = h
built_faulty (choose_built true h g) l s = built_faulty h l s
built_faulty (choose_built false h g) l s = built_faulty g l s
built_faulty (bind_built {r = r} {f = f} h g) l s = faulty_bind (r l s) f (built_faulty h l s) (λ a k t. built_faulty (g a) k t)
built_faulty not_ended_built l [] = line_fault
built_faulty not_ended_built l (x ∷ s) = tt
built_faulty paper_end_built l [] = tt
built_faulty paper_end_built l (x ∷ s) = line_fault
built_faulty (stands_built w) l s = go (begins w s)
  where
    go : (b : Bool) → Faulty (cond b (got true l (drop (length w) s)) (got false l s))
    go true = tt
    go false = tt
built_faulty (longest_built p) l s = tt
built_faulty (line_end_built {n = n} h) l s = line_faulty n h l s

-- so no reader refuses with 0
pub never_zero : {A : Type 0} {r : Reader A} → Built r → (l : ℕ) (s : List ℕ) (n k : ℕ) → r l s ≡ wrong n k → n ≡ 0 → ⊥
never_zero h l s n k e z = omega (arith, (subst Faulty e (built_faulty h l s)).0)

-- code that answers for a reader with a number, 0 where it gives a value, and a line: what its answer v tells
module _ {A R : Type 0} (form : Got A → R) (number line : R → ℕ) (zero : (a : A) (l : ℕ) (t : List ℕ) → number (form (got a l t)) ≡ 0)
    (same : (n l : ℕ)
    → (number (form (wrong n l)) ≡ n) × (line (form (wrong n l)) ≡ l)) {r : Reader A} (built : Built r) (l : ℕ) (s : List ℕ) (v : R) (is : v
    ≡ form (r l s)) where
  pub told_got : number v ≡ 0 → (a : A) × (k : ℕ) × (t : List ℕ) × (r l s ≡ got a k t) × (v ≡ form (got a k t))
  told_got z = go (r l s) refl
    where
      go : (x : Got A) → r l s ≡ x → (a : A) × (k : ℕ) × (t : List ℕ) × (r l s ≡ got a k t) × (v ≡ form (got a k t))
      go (got a k t) e = (a, k, t, e, is ∙ ap form e)
      go (wrong n k) e = absurd (never_zero built l s n k e (sym (ap number (is ∙ ap form e) ∙ (same n k).0) ∙ z))

  pub told_wrong : (number v ≡ 0 → ⊥) → r l s ≡ wrong (number v) (line v)
  told_wrong z = go (r l s) refl
    where
      go : (x : Got A) → r l s ≡ x → r l s ≡ wrong (number v) (line v)
      go (got a k t) e = absurd (z (ap number (is ∙ ap form e) ∙ zero a k t))
      go (wrong n k) e = e ∙ rw (is ∙ ap form e, (same n k).0, (same n k).1)
