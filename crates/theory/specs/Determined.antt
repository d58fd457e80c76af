-- What a contract leaves no choice of. A contract, as a caller learns it, relates the lifetimes and the arguments of a call with its answer and with the
-- parameters at exit.
use Rattle.std.specs.Prelude.{◌≡◌}
use Rattle.std.proofs.Common.{sym, ◌∙◌}

module _ {Lifetimes : Type 0} {Arguments Answer Exit : Lifetimes → Type 0} (Contract : (κs : Lifetimes) → Arguments κs → Answer κs → Exit κs → Type 0) where
  -- it settles what is seen of a call: any two calls that it allows with the same arguments look the same
  abbrev pub Settles : {View : Lifetimes → Type 0} → ((κs : Lifetimes) → Answer κs → Exit κs → View κs) → Type 0
  Settles see = (κs : Lifetimes) (a : Arguments κs) (r q : Answer κs) (s t : Exit κs) → Contract κs a r s → Contract κs a q t → see κs r s ≡ see κs q t

  -- it settles the answer itself
  abbrev pub Determines : Type 0
  Determines = Settles (λ κs r s. r)

-- two things that equal one thing are equal
pub only : {A : Type 0} {d r q : A} → r ≡ d → q ≡ d → r ≡ q
only e f = e ∙ sym f
