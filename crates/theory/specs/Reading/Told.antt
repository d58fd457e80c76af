-- What a reader tells of a text, on whatever line it stands: a value with a property and the bytes that it took, or a refusal.
use Rattle.std.specs.Prelude.{ℕ, suc, ◌+◌, ◌-◌, ◌≤◌, ◌≡◌, refl, Bool, true, false, List, [], ◌∷◌, length, take, drop, eqb}
use Rattle.std.proofs.Common.{sym, ◌∙◌, ap, arith, length-drop, length-append, drop-drop, take_at}
use Rattle.std.proofs.lemmas.Bool.{false≢true}
use Rattle.meaning.specs.Text.{begins, run}
use Rattle.meaning.specs.Reading.{got, wrong, Reader, ◌>>=◌, give, choose, not_ended, stands, longest, paper_end}
use Rattle.theory.specs.Reading.Built.{BuiltIn, Inline, give_built, refuse_built, choose_built, bind_built, not_ended_built, paper_end_built, stands_built, longest_built, line_end_built}
use Rattle.theory.specs.Reading.Readers.{Ensures}
use Rattle.theory.specs.Reading.Spelling.{Spells}

pub data Told {A : Type 0} (P : A → Type 0) (r : Reader A) (s : List ℕ) : Type 0 where
  found : (a : A) (n : ℕ) → P a → n ≤ length s → ((l : ℕ) → r l s ≡ got a l (drop n s)) → Told P r s
  faulty : (k : ℕ) → ((l : ℕ) → r l s ≡ wrong k l) → Told P r s

-- nothing is said of the value
abbrev pub Any : {A : Type 0} → A → Type 0
Any a = Unit {0}

-- the bytes of what was read
pub took : (s : List ℕ) (n : ℕ) → n ≤ length s → length s - length (drop n s) ≡ n
took s n h = rw length-drop (omega arith)

module _ {A : Type 0} (P : A → Type 0) where
  pub told_give : (a : A) (s : List ℕ) → P a → Told P (give a) s
  told_give a s h = Told.found a 0 h (omega arith) (λ l. refl)

  pub told_choose : (b : Bool) (r t : Reader A) (s : List ℕ) → (b ≡ true → Told P r s) → (b ≡ false → Told P t s) → Told P (choose b r t) s
  told_choose true r t s h g = h refl
  told_choose false r t s h g = g refl

module _ {A B : Type 0} (P : A → Type 0) (Q : B → Type 0) where
  pub told_bind : (r : Reader A) (f : A → Reader B) (s : List ℕ) → Told P r s → ((a : A) (u : List ℕ) → P a → Told Q (f a) u) → Told Q (◌>>=◌ r f) s
  told_bind r f s (Told.faulty k e) g = Told.faulty k (λ l. rw (e l))
  told_bind r f s (Told.found a n h m e) g = go (g a (drop n s) h)
    where
      go : Told Q (f a) (drop n s) → Told Q (◌>>=◌ r f) s
      go (Told.faulty k d) = Told.faulty k (λ l. rw (e l) (d l))
      go (Told.found b i q j d) =
          Told.found b (n + i) q (let z : i ≤ length s - n = rw (← length-drop n s) j in omega arith) (λ l. rw (e l) (d l ∙ rw (drop-drop i n s)))

-- the fixed text and the run
pub begins_fits : (w s : List ℕ) → begins w s ≡ true → length w ≤ length s
unfolding begins
begins_fits [] s e = omega arith
begins_fits (y ∷ w) [] e = absurd (false≢true e)
begins_fits (y ∷ w) (x ∷ s) e = go (eqb x y) e (begins_fits w s)
  where
    go : (b : Bool) → ◌≡◌ {A = Bool} (elim b [ true ↦ begins w s | false ↦ false ]) true → (begins w s ≡ true → length w ≤ length s)
        → suc (length w) ≤ suc (length s)
    go true e ih = let z = ih e in omega arith
    go false e ih = absurd (false≢true e)

pub told_stands : (w s : List ℕ) → Told Any (stands w) s
unfolding stands
told_stands w s = go (begins w s) refl
  where
    go : (b : Bool) → begins w s ≡ b → Told Any (stands w) s
    go true e = Told.found true (length w) tt (begins_fits w s e) (λ l. rw e)
    go false e = Told.found false 0 tt (omega arith) (λ l. rw e)

pub run_fits : (p : ℕ → Bool) (s : List ℕ) → run p s ≤ length s
unfolding run
run_fits p [] = omega arith
run_fits p (x ∷ s) = go (p x) (run_fits p s)
  where
    go : (b : Bool) → run p s ≤ length s → ◌≤◌ (elim b [ true ↦ suc (run p s) | false ↦ 0 ]) (suc (length s))
    go true h = omega arith
    go false h = omega arith

-- at the end of the paper and before it
pub not_ended_none : (l : ℕ) (s : List ℕ) → length s ≡ 0 → not_ended l s ≡ wrong 2 l
unfolding not_ended
not_ended_none l [] h = refl
not_ended_none l (x ∷ s) h = absurd (omega arith)

pub not_ended_some : (l : ℕ) (s : List ℕ) → (length s ≡ 0 → ⊥) → not_ended l s ≡ got tt l s
unfolding not_ended
not_ended_some l [] h = absurd (h refl)
not_ended_some l (x ∷ s) h = refl

-- every reader that is built from the pieces and ends no line
unended : {A : Type 0} {r : Reader A} (m : Bool) → m ≡ false → BuiltIn m r → (s : List ℕ) → Told Any r s
unfolding not_ended paper_end longest
unended m e give_built s = told_give Any _ s tt
unended m e (refuse_built {n = n} h) s = Told.faulty n (λ l. refl)
unended m e (choose_built {r = r} {t = t} b h g) s = told_choose Any b r t s (λ _. unended m e h s) (λ _. unended m e g s)
unended m e (bind_built {r = r} {f = f} h g) s = told_bind Any Any r f s (unended m e h s) (λ a u _. unended m e (g a) u)
unended m e not_ended_built [] = Told.faulty 2 (λ l. refl)
unended m e not_ended_built (x ∷ s) = Told.found tt 0 tt (omega arith) (λ l. refl)
unended m e paper_end_built [] = Told.found tt 0 tt (omega arith) (λ l. refl)
unended m e paper_end_built (x ∷ s) = Told.faulty 2 (λ l. refl)
unended m e (stands_built w) s = told_stands w s
unended m e (longest_built p) s = Told.found (take (run p s) s) (run p s) tt (run_fits p s) (λ l. refl)
unended m e (line_end_built h) s = absurd (false≢true (sym e))

pub inline_told : {A : Type 0} {r : Reader A} → Inline r → (s : List ℕ) → Told Any r s
inline_told h s = unended false refl h s

-- with what it ensures
pub told_ensured : {A : Type 0} {P : A → Type 0} {r : Reader A} → Inline r → Ensures r P → (s : List ℕ) → Told P r s
told_ensured {A} {P} {r} h g s = go (inline_told h s)
  where
    go : Told Any r s → Told P r s
    go (Told.found a n u m e) = Told.found a n ((g.gives 0 s).of a 0 (drop n s) (e 0)) m e
    go (Told.faulty k e) = Told.faulty k e

pub told_weaker : {A : Type 0} {P Q : A → Type 0} {r : Reader A} {s : List ℕ} → ((a : A) → P a → Q a) → Told P r s → Told Q r s
told_weaker h (Told.found a n p m e) = Told.found a n (h a p) m e
told_weaker h (Told.faulty k e) = Told.faulty k e

-- as many bytes as the text of the value has
pub spelled_took : {A : Type 0} {r : Reader A} {w : A → List ℕ} → Spells [] r w → (l : ℕ) (s : List ℕ) (a : A) (k n : ℕ) → n ≤ length s
    → r l s ≡ got a k (drop n s) → n ≡ length (w a)
spelled_took {w = w} h l s a k n m e = let z = ap length ((h.reads l s).of a k (drop n s) e) in omega (arith, length-append (w a) (drop n s), length-drop n s)

-- and it is that text
pub spelled_text : {A : Type 0} {r : Reader A} {w : A → List ℕ} → Spells [] r w → (l : ℕ) (s : List ℕ) (a : A) (k n : ℕ) → n ≤ length s
    → r l s ≡ got a k (drop n s) → w a ≡ take n s
spelled_text {w = w} h l s a k n m e =
    sym (ap (take n) ((h.reads l s).of a k (drop n s) e) ∙ take_at (w a) (drop n s) n (sym (spelled_took h l s a k n m e)))
