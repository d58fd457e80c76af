-- What was given to `map_err` before a `?`.
use mathlib.Core.Path.{◌≡◌, refl, sym, ◌∙◌}
use Rattle.std.specs.Prelude.{Result, Ok, Err}
use Rattle.std.specs.Result.{IsErrAnd, MatchResult}

module _ {T E D : Type 0} (o : Result T E) (m : Result T D) (P : E → D → Type 0) (cases : MatchResult o (λ x. m ≡ Ok x) (λ e. IsErrAnd m (P e))) where
  pub told_err : {d : D} → m ≡ Err d → (e : E) × (o ≡ Err e) × P e d
  told_err {d} z = go o refl cases
    where
      go : (x : Result T E) → o ≡ x → MatchResult x (λ x. m ≡ Ok x) (λ e. IsErrAnd m (P e)) → (e : E) × (o ≡ Err e) × P e d
      go (Ok x) y h = other (sym z ∙ h)
        where
          other : {C : Type 0} → ◌≡◌ {A = Result T D} (Err d) (Ok x) → C
          other e = cc
      go (Err e) y h = (e, y, rw z at h)

  pub told_ok : {v : T} → m ≡ Ok v → o ≡ Ok v
  told_ok {v} z = go o refl cases
    where
      go : (x : Result T E) → o ≡ x → MatchResult x (λ x. m ≡ Ok x) (λ e. IsErrAnd m (P e)) → o ≡ Ok v
      go (Ok x) y h = let w : ◌≡◌ {A = Result T D} (Ok v) (Ok x) = sym z ∙ h in y ∙ same w
        where
          same : ◌≡◌ {A = Result T D} (Ok v) (Ok x) → ◌≡◌ {A = Result T E} (Ok x) (Ok v)
          same e = let i : v ≡ x = cc in rw i
      go (Err e) y h = absurd (other (rw z at h))
        where
          other : IsErrAnd {T = T} {E = D} (Ok v) (P e) → ⊥
          other h = h
