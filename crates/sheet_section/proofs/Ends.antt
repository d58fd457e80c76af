-- The end of a line, by the answer on the LF that is due there.
use Prim.Native.Nat.{ℕ, suc}
use mathlib.Core.Path.{◌≡◌, refl, ◌∙◌}
use mathlib.Core.List.{List}
use lib.ListN.{drop}
use Rattle.std.specs.Prelude.{Result, Ok, Err}
use Rattle.meaning.specs.Text.{text}
use Rattle.meaning.specs.Refusal.{LINE}
use Rattle.meaning.specs.Reading.{Got, got, wrong, Reader, after, due, line_end}
use Rattle.theory.specs.Reading.Answered.{Left, line_ends}
use Rattle.theory.specs.Reading.Built.{line_fault}
use Rattle.theory.specs.Reading.Piece.{Off, Next, piece_on, piece_off}
use Rattle.reply.specs.declared.Fault.{Fault}
use Rattle.reply.specs.Faults.{fault_of}
use Rattle.text.specs.Pieces.{as_length}

-- the end of a line, and what is read behind it
abbrev pub closing : {A : Type 0} → Reader A → Reader A
closing k = λ l t. after (line_end LINE l t) (λ u. k)

feed_end : (t : List ℕ) → as_length t (due LINE (text "\n") 0 t) ≡ as_length t (line_end LINE 0 t)
unfolding line_end
feed_end t = go (due LINE (text "\n") 0 t)
  where
    go : (x : Got (Unit {0})) → as_length t x ≡ as_length t (after x (λ u l t. got u (suc l) t))
    go (got u l t) = refl
    go (wrong n l) = refl

module _ {A : Type 0} {x : Got A} (k : Reader A) {l at : ℕ} {s : List ℕ} (left : Left x (closing k) l at s) (u : List ℕ) (rest : u ≡ drop at s)
    (p : Result ℕ Fault) (is : p ≡ as_length u (due LINE (text "\n") 0 u)) where
  pub end_off : (e : Fault) → p ≡ Err e → Off fault_of x l e
  end_off e z = piece_off (λ u n. n) fault_of (line_ends line_fault) (λ u. k) left u rest p (is ∙ feed_end u) e z

  -- its LF, and what is left behind it
  pub end_on : (n : ℕ) → p ≡ Ok n → Next (λ (v : Unit {0}) n. n) (λ v n. n ≡ 1) x (λ v. k) (suc l) at s n
  end_on n z = piece_on (λ u n. n) fault_of (line_ends line_fault) (λ u. k) left u rest p (is ∙ feed_end u) n z
