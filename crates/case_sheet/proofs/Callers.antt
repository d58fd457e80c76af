-- What a caller may conclude from the answer: the sheet that was accepted, and what is known of it.
use Prim.Native.Nat.{ℕ}
use mathlib.Core.Path.{◌≡◌, refl, ◌∙◌, ap}
use mathlib.Core.List.{List}
use mathlib.Core.Option.{some}
use native.Mathlib.Omega.{arith}
use Rattle.meaning.specs.Text.{In}
use Rattle.meaning.specs.Refusal.{Answer, taken, refused}
use Rattle.meaning.specs.Condition.{Cond}
use Rattle.meaning.specs.Sheet.{Rule}
use Rattle.meaning.specs.Graph.{TestingOrder}
use Rattle.meaning.specs.Tests.{nodes, tests}
use Rattle.meaning.specs.Dependency.{predecessors}
use Rattle.meaning.specs.Doors as D
use Rattle.meaning.specs.Doors.{read_sheet}
use Rattle.theory.specs.Papers.Formed.{Well}
use Rattle.theory.specs.Papers.Case.{sheet_holds}
use Rattle.theory.specs.Requests.Numbers.{sheet_tells}
use Rattle.cond_value.specs.Fits.{Fits}
use Rattle.sheet_tables.specs.Heads.{heads_of, Sized}
use Rattle.sheet_tables.proofs.Tables as Tables
use Rattle.step_sheet.specs.declared.Accepted.{Accepted}
use Rattle.step_sheet.specs.Answers.{taken_sheet, refused_sheet, as_accepted}
use Rattle.step_sheet.proofs.Sheets.{accepted_fits}

-- the sheet that was accepted
pub record Taken (s : List ℕ) (r : Accepted) : Type 0 where
  pub sheet : D.Accepted
  pub same : read_sheet s ≡ taken sheet
  pub is : r ≡ taken_sheet sheet
  pub well : Well sheet.sheet
  pub order : TestingOrder (nodes sheet.sheet.heads) (predecessors (tests sheet.sheet)) sheet.order
  pub fits : (r : Rule) → In r sheet.sheet.rules → (c : Cond) → r.condition ≡ some c → Fits c

module _ (s : List ℕ) (r : Accepted) (told : r ≡ as_accepted (read_sheet s)) where
  pub accept_read : r.number ≡ 0 → Taken s r
  accept_read z = go (read_sheet s) refl
    where
      go : (x : Answer D.Accepted) → read_sheet s ≡ x → Taken s r
      go (taken a) e =
          record { sheet = a; same = e; is = told ∙ ap as_accepted e; well = (sheet_holds s a e).0; order = (sheet_holds s a e).1; fits = accepted_fits s a e }
      go (refused n p l) e =
          let q : r.number ≡ n = ap (λ (r : Accepted). r.number) (told ∙ ap as_accepted e) in
          absurd (omega (arith, ((sheet_tells s).told n p l e).0))

  pub accept_wrong : (r.number ≡ 0 → ⊥) → read_sheet s ≡ refused r.number 1 r.line
  accept_wrong z = go (read_sheet s) refl
    where
      go : (x : Answer D.Accepted) → read_sheet s ≡ x → read_sheet s ≡ refused r.number 1 r.line
      go (taken a) e = absurd (z (ap (λ (r : Accepted). r.number) (told ∙ ap as_accepted e)))
      go (refused n p l) e =
          let q : r ≡ refused_sheet n l = told ∙ ap as_accepted e in
          let paper_is : p ≡ 1 = ((sheet_tells s).told n p l e).2 in
          rw (q, ← paper_is) e

  module _ (zero : r.number ≡ 0) where
    -- the tables are sized, and stand for what stands above its rules
    pub accept_sized : Sized r.heads
    accept_sized = let t = accept_read zero in rw (ap (λ (r : Accepted). r.heads) t.is) (Tables.sized t.sheet.sheet.heads t.well.heads)

    pub accept_heads : heads_of r.heads ≡ (accept_read zero).sheet.sheet.heads
    accept_heads =
        let t = accept_read zero in
        ap (λ (r : Accepted). heads_of r.heads) t.is ∙ Tables.heads_again t.sheet.sheet.heads t.well.heads
