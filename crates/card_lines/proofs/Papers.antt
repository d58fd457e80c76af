-- A fault on a line, and a whole paper: what an answer tells.
use Prim.Native.Nat.{ℕ}
use mathlib.Core.Path.{◌≡◌, refl, sym, ◌∙◌}
use mathlib.Core.List.{List}
use Rattle.std.specs.Prelude.{Result, Ok, Err}
use Rattle.meaning.specs.Refusal.{Answer, taken, refused}
use Rattle.meaning.specs.Reading.{wrong, Reader}
use Rattle.theory.specs.Reading.Piece.{Refuses, as_paper}
use Rattle.reply.specs.declared.Fault.{Fault}
use Rattle.reply.specs.declared.Wrong.{Wrong}
use Rattle.reply.specs.Faults.{fault_of, wrong_of}
use Rattle.card_lines.specs.Answers.{on_line}

-- A FAULT ON A LINE, from the answer q of on_line
module _ {A : Type 0} (p : Result A Fault) (l : ℕ) (q : Result A Wrong) (is : q ≡ on_line p l) where
  pub line_went : (v : A) → q ≡ Ok v → p ≡ Ok v
  line_went v e = go p (sym e ∙ is)
    where
      go : (p : Result A Fault) → Ok v ≡ on_line p l → p ≡ Ok v
      go (Ok a) z = cc
      go (Err e) z = cc

  pub line_left : (w : Wrong) → q ≡ Err w → (p ≡ Err w.fault) × (w.line ≡ l)
  line_left w e = go p (sym e ∙ is)
    where
      go : (p : Result A Fault) → Err w ≡ on_line p l → (p ≡ Err w.fault) × (w.line ≡ l)
      go (Ok a) z = cc
      go (Err f) z = let y : w ≡ record { fault = f; line = l } = cc in rw y (refl, refl)

-- the refusal of a reader, on that line
pub record Fails {A : Type 0} (r : Reader A) (t : List ℕ) (l : ℕ) (w : Wrong) : Type 0 where
  pub number : ℕ
  pub is : w ≡ wrong_of number l
  pub reads : r l t ≡ wrong number l

pub wrong_is : (w : Wrong) (f : Fault) (l : ℕ) → w.fault ≡ f → w.line ≡ l → w ≡ record { fault = f; line = l }
wrong_is w f l a b = rw (← a, ← b)

pub line_fails : {A B : Type 0} {r : Reader A} {t : List ℕ} {p : Result B Fault} → ((e : Fault) → p ≡ Err e → Refuses fault_of r t e) → (l : ℕ)
    (q : Result B Wrong) → q ≡ on_line p l → (w : Wrong) → q ≡ Err w → Fails r t l w
line_fails {p = p} refuses l q is w e =
    let o = line_left p l q is w e in
    let h = refuses w.fault o.0 in
    record { number = h.number; is = wrong_is w (fault_of h.number) l h.is o.1; reads = h.reads l }

-- A PAPER, from the answer v for the answer x of the meaning
module _ {A B E : Type 0} (good : A → B) (bad : ℕ → ℕ → ℕ → E) (x : Answer A) (v : Result B E) (is : v ≡ as_paper good bad x) where
  pub paper_took : (b : B) → v ≡ Ok b → (a : A) × (x ≡ taken a) × (b ≡ good a)
  paper_took b e = go x refl (sym e ∙ is)
    where
      go : (y : Answer A) → x ≡ y → Ok b ≡ as_paper good bad y → (a : A) × (x ≡ taken a) × (b ≡ good a)
      go (taken a) q z = (a, q, cc)
      go (refused n p l) q z = cc

  pub paper_refuses : (e : E) → v ≡ Err e → (n : ℕ) × (p : ℕ) × (l : ℕ) × (x ≡ refused n p l) × (e ≡ bad n p l)
  paper_refuses e o = go x refl (sym o ∙ is)
    where
      go : (y : Answer A) → x ≡ y → Err e ≡ as_paper good bad y → (n : ℕ) × (p : ℕ) × (l : ℕ) × (x ≡ refused n p l) × (e ≡ bad n p l)
      go (taken a) q z = cc
      go (refused n p l) q z = (n, p, l, q, cc)
