-- Values, from the answer on the number, in the form in which `entry_piece` needs them.
use mathlib.Core.Path.{◌≡◌, refl, sym, ◌∙◌, ap}
use mathlib.Core.Bool.{Bool, true, false, false≢true}
use mathlib.Core.List.{List, [], ◌∷◌}
use Prim.Native.Nat.{ℕ, suc, ◌+◌, ◌-◌}
use native.Mathlib.Omega.{arith}
use native.Mathlib.Numerals.{add-one}
use mir.Val.{Fits}
use mir.Syntax.{w64}
use lib.ListN.{length}
use Rattle.meaning.specs.Text.{text, begins}
use Rattle.meaning.specs.Reading.{not_ended, stands, after, give}
use Rattle.meaning.specs.Number.{number, entry, number_at}
use Rattle.theory.specs.Reading.Told.{took}
use Rattle.number.specs.Answers.{as_number, as_entry}
use Rattle.std.specs.Prelude.{Result, Ok, Err}
use Rattle.reply.specs.declared.Fault.{Fault}
use Rattle.reply.specs.Faults.{fault_of}
use Rattle.text.specs.declared.Taken.{Taken}
use Rattle.number.proofs.Callers.{number_wrong, number_got, number_fits, number_small}

pub entry_missing : (s : List ℕ) (b : Bool) → b ≡ begins (text "?") s → b ≡ true → Ok (record { value = 0; bytes = 1 }) ≡ as_entry s (entry 0 s)
unfolding entry not_ended stands begins
entry_missing [] b is t = absurd (false≢true (sym is ∙ t))
entry_missing (x ∷ s) b is t =
    let z : suc (length s) - length s ≡ 1 = omega arith in
    rw (sym is ∙ t, z)

entry_is : (s : List ℕ) → begins (text "?") s ≡ false
    → entry 0 s ≡ after (number 0 s) (λ n. give (record { shown = n.shown; value = number_at n.at }))
unfolding entry number not_ended stands
entry_is [] h = refl
entry_is (x ∷ s) h = rw h

module _ (s : List ℕ) (p : Result (Taken ℕ) Fault) (is : p ≡ as_number s (number 0 s)) where
  pub entry_room : (v : Taken ℕ) → p ≡ Ok v → (w : ℕ) → w ≡ v.value + 1 → Fits w64 w
  entry_room v q w e = omega (arith, number_small s p is v q)

  module _ (b : Bool) (other : b ≡ begins (text "?") s) (f : b ≡ false) where
    pub entry_refused : (e : Fault) → p ≡ Err e → Err e ≡ as_entry s (entry 0 s)
    entry_refused e q =
        let h = number_wrong s p is e q in
        let y : ◌≡◌ {A = Result (Taken ℕ) Fault} (Err e) (Err (fault_of h.number)) = ap (λ f. Err f) h.is in
        y ∙ sym (rw (entry_is s (sym other ∙ f), h.reads 0))

    pub entry_read : (v : Taken ℕ) → p ≡ Ok v → Ok (record { value = v.value + 1; bytes = v.bytes }) ≡ as_entry s (entry 0 s)
    entry_read v q = sym (rw (entry_is s (sym other ∙ f), number_got s p is v q 0, took s v.bytes (number_fits s p is v q), add-one))

pub ruleset entering = (entry_missing, entry_room, entry_refused, entry_read)
