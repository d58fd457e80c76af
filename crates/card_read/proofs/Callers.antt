-- For callers: what an answer of this crate tells of the meaning, without a look into it.
use Prim.Native.Nat.{ℕ}
use mathlib.Core.Path.{◌≡◌, sym, ◌∙◌, ap}
use mathlib.Core.List.{List}
use native.Mathlib.Omega.{arith}
use Rattle.std.specs.Prelude.{Result, Ok, Err}
use Rattle.meaning.specs.Refusal.{taken, refused}
use Rattle.meaning.specs.Sheet.{Heads}
use Rattle.meaning.specs.Card as M
use Rattle.theory.specs.Requests.Numbers.{card_tells}
use Rattle.reply.specs.declared.Wrong.{Wrong}
use Rattle.reply.specs.Faults.{number_of, wrong_of}
use Rattle.reply.proofs.Faults.{number_again}
use Rattle.case_tables.specs.declared.Card.{Card}
use Rattle.case_tables.specs.Cards.{as_card}
use Rattle.card_lines.proofs.Papers.{paper_took, paper_refuses}
use Rattle.card_read.specs.Answers.{as_card_read}

module _ (hd : Heads) (s : List ℕ) (r : Result Card Wrong) (is : r ≡ as_card_read hd (M.read_card hd s)) where
  pub card_taken : (c : Card) → r ≡ Ok c → (a : M.Card) × (M.read_card hd s ≡ taken a) × (c ≡ as_card hd a)
  card_taken = paper_took (as_card hd) (λ n p l. wrong_of n l) (M.read_card hd s) r is

  pub card_refused : (w : Wrong) → r ≡ Err w → M.read_card hd s ≡ refused (number_of w.fault) 2 w.line
  card_refused w e = go (paper_refuses (as_card hd) (λ n p l. wrong_of n l) (M.read_card hd s) r is w e)
    where
      go : (n : ℕ) × (p : ℕ) × (l : ℕ) × (M.read_card hd s ≡ refused n p l) × (w ≡ wrong_of n l) → M.read_card hd s ≡ refused (number_of w.fault) 2 w.line
      go (n, p, l, x, y) =
          let some = (card_tells hd s).told n p l x in
          let number : number_of w.fault ≡ n = ap (λ w. number_of w.fault) y ∙ number_again n some.0 (omega (arith, some.1)) in
          let line : l ≡ w.line = sym (ap (λ w. w.line) y) in
          x ∙ ap (λ p. refused n p l) some.2 ∙ ap (λ l. refused n 2 l) line ∙ ap (λ n. refused n 2 w.line) (sym number)
