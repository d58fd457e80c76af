-- Where a `?` leaves a function: it returns the refusal that it met.
use mathlib.Core.Path.{◌≡◌, ◌∙◌, ap}
use Rattle.std.specs.Prelude.{Result, Err}
use Rattle.std.specs.Result.{IsErr, IsErrAnd}
use Rattle.std.proofs.lemmas.Result.{err_from_is_err_and}

pub left_by : {B E : Type 0} {r x : Result B E} {e : E} → IsErr r × IsErrAnd r (λ d. d ≡ e) → Err e ≡ x → r ≡ x
left_by {r = r} h q = let p = err_from_is_err_and r h.1 in p.1 ∙ ap Err p.2 ∙ q
