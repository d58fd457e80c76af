-- Readers do not look at the line's number: started at line l they do as at line 0, and the lines that they tell are l more.
use Rattle.std.specs.Prelude.{ℕ, suc, ◌+◌, ◌≡◌, refl, Bool, true, false, cond, List, [], ◌∷◌, length, drop, take}
use Rattle.std.proofs.Common.{sym, ◌∙◌, ap, arith}
use Rattle.meaning.specs.Text.{text, begins, run}
use Rattle.meaning.specs.Reading.{Got, got, wrong, Reader, after, demand, not_ended, stands, due, longest, line_end, paper_end}
use Rattle.theory.specs.Reading.Built.{Built, give_built, refuse_built, choose_built, bind_built, not_ended_built, paper_end_built, stands_built, longest_built, line_end_built}

module _ {A : Type 0} where
  -- what was read, its lines l more
  abbrev pub shifted : ℕ → Got A → Got A
  shifted l (got a k t) = got a (l + k) t
  shifted l (wrong n k) = wrong n (l + k)

  shifted_twice : (l k : ℕ) (x : Got A) → shifted l (shifted k x) ≡ shifted (l + k) x
  shifted_twice l k (got a i t) = let e : l + (k + i) ≡ l + k + i = omega arith in ap (λ j. got a j t) e
  shifted_twice l k (wrong n i) = let e : l + (k + i) ≡ l + k + i = omega arith in ap (λ j. wrong n j) e

  given : (a : A) (l : ℕ) (s : List ℕ) → got a l s ≡ got a (l + 0) s
  given a l s = let e : l ≡ l + 0 = omega arith in ap (λ j. got a j s) e

  denied : (n l : ℕ) → ◌≡◌ {A = Got A} (wrong n l) (wrong n (l + 0))
  denied n l = let e : l ≡ l + 0 = omega arith in ap (λ j. wrong n j) e

module _ {A B : Type 0} (f : A → Reader B) (h : (a : A) (l : ℕ) (s : List ℕ) → f a l s ≡ shifted l (f a 0 s)) where
  shifted_bind : (l : ℕ) (x : Got A) → after (shifted l x) f ≡ shifted l (after x f)
  shifted_bind l (got a k t) = h a (l + k) t ∙ sym (shifted_twice l k (f a 0 t)) ∙ ap (shifted l) (sym (h a k t))
  shifted_bind l (wrong n k) = refl

line_shifts : (n l : ℕ) (s : List ℕ) → line_end n l s ≡ shifted l (line_end n 0 s)
unfolding line_end due not_ended stands
line_shifts n l [] = denied 2 l
line_shifts n l (x ∷ s) = go (begins (text "\n") (x ∷ s))
  where
    go : (b : Bool) → after (after (cond b (got true l s) (got false l (x ∷ s))) (λ b. demand n b)) (λ u k t. got u (suc k) t)
        ≡ shifted l (after (after (cond b (got true 0 s) (got false 0 (x ∷ s))) (λ b. demand n b)) (λ u k t. got u (suc k) t))
    go true = let e : suc l ≡ l + 1 = omega arith in ap (λ j. got tt j s) e
    go false = denied n l

-- every reader that is built from the pieces
pub built_shifts : {A : Type 0} {r : Reader A} → Built r → (l : ℕ) (s : List ℕ) → r l s ≡ shifted l (r 0 s)
unfolding not_ended paper_end stands longest
built_shifts (give_built {a = a}) l s = given a l s
built_shifts (refuse_built {n = n} h) l s = denied n l
built_shifts (choose_built true h g) l s = built_shifts h l s
built_shifts (choose_built false h g) l s = built_shifts g l s
built_shifts (bind_built {r = r} {f = f} h g) l s = ap (λ x. after x f) (built_shifts h l s) ∙ shifted_bind f (λ a k t. built_shifts (g a) k t) l (r 0 s)
built_shifts not_ended_built l [] = denied 2 l
built_shifts not_ended_built l (x ∷ s) = given tt l (x ∷ s)
built_shifts paper_end_built l [] = given tt l []
built_shifts paper_end_built l (x ∷ s) = denied 2 l
built_shifts (stands_built w) l s = go (begins w s)
  where
    go : (b : Bool) → cond b (got true l (drop (length w) s)) (got false l s) ≡ shifted l (cond b (got true 0 (drop (length w) s)) (got false 0 s))
    go true = given true l (drop (length w) s)
    go false = given false l s
built_shifts (longest_built p) l s = given (take (run p s) s) l (drop (run p s) s)
built_shifts (line_end_built {n = n} h) l s = line_shifts n l s
