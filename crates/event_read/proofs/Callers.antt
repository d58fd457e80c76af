-- For callers: what an answer of this crate tells of the meaning, without a look into it.
use Prim.Native.Nat.{ℕ}
use mathlib.Core.Path.{◌≡◌, sym, ◌∙◌, ap}
use mathlib.Core.List.{List}
use native.Mathlib.Omega.{arith}
use Rattle.std.specs.Prelude.{Result, Ok, Err}
use Rattle.meaning.specs.Refusal.{taken, refused}
use Rattle.meaning.specs.Sheet.{Heads}
use Rattle.meaning.specs.Card as M
use Rattle.theory.specs.Requests.Numbers.{event_tells}
use Rattle.reply.specs.declared.Wrong.{Wrong}
use Rattle.reply.specs.Faults.{number_of, wrong_of}
use Rattle.reply.proofs.Faults.{number_again}
use Rattle.case_tables.specs.declared.Happening.{Happening}
use Rattle.case_tables.specs.Cards.{as_happening}
use Rattle.card_lines.proofs.Papers.{paper_took, paper_refuses}
use Rattle.event_read.specs.Answers.{as_event_read}

module _ (hd : Heads) (s : List ℕ) (r : Result Happening Wrong) (is : r ≡ as_event_read hd (M.read_event hd s)) where
  pub event_taken : (c : Happening) → r ≡ Ok c → (a : M.Happening) × (M.read_event hd s ≡ taken a) × (c ≡ as_happening hd a)
  event_taken = paper_took (as_happening hd) (λ n p l. wrong_of n l) (M.read_event hd s) r is

  pub event_refused : (w : Wrong) → r ≡ Err w → M.read_event hd s ≡ refused (number_of w.fault) 3 w.line
  event_refused w e = go (paper_refuses (as_happening hd) (λ n p l. wrong_of n l) (M.read_event hd s) r is w e)
    where
      go : (n : ℕ) × (p : ℕ) × (l : ℕ) × (M.read_event hd s ≡ refused n p l) × (w ≡ wrong_of n l) → M.read_event hd s ≡ refused (number_of w.fault) 3 w.line
      go (n, p, l, x, y) =
          let some = (event_tells hd s).told n p l x in
          let number : number_of w.fault ≡ n = ap (λ w. number_of w.fault) y ∙ number_again n some.0 (omega (arith, some.1)) in
          let line : l ≡ w.line = sym (ap (λ w. w.line) y) in
          x ∙ ap (λ p. refused n p l) some.2 ∙ ap (λ l. refused n 3 l) line ∙ ap (λ n. refused n 3 w.line) (sym number)
