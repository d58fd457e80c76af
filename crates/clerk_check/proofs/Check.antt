-- What is printed for a sheet with the word `check`, return by return: what is known there, and the answer that is asked.
use Prim.Native.Nat.{ℕ, ◌≤◌}
use mathlib.Core.Path.{◌≡◌, refl, sym, ◌∙◌, ap, subst}
use mathlib.Core.List.{List}
use mathlib.Core.Option.{Option, none, some}
use native.Mathlib.Omega.{arith}
use lib.ListN.{length, take}
use Rattle.meaning.specs.Refusal.{Answer, taken, refused}
use Rattle.meaning.specs.Limits.{sheet_bytes}
use Rattle.meaning.specs.Reading.{paper}
use Rattle.meaning.specs.Sheet as M
use Rattle.meaning.specs.ReadSheet.{sheet}
use Rattle.meaning.specs.Dependency.{testing_order}
use Rattle.meaning.specs.Doors.{read_sheet}
use Rattle.meaning.specs.Desk.{refusal_text}
use Rattle.meaning.specs.Clerk.{order_told, check_printed, check_output}
use Rattle.theory.specs.Papers.Formed.{Well}
use Rattle.theory.specs.Requests.Numbers.{sheet_tells}
use Rattle.theory.specs.Clerk.Checks.{circle_short, sheet_short}
use Rattle.sheet_tables.specs.Heads.{Sized}
use Rattle.sheet_tables.proofs.Tables.{sized}
use Rattle.sheet_tables.specs.Rules.{as_rules}
use Rattle.sheet_read.specs.declared.SheetRead.{SheetRead}
use Rattle.sheet_read.specs.Answers.{as_sheet_read, words_read}
use Rattle.std.specs.Prelude.{Result, Ok, Err}
use Rattle.reply.specs.declared.Wrong.{Wrong}
use Rattle.reply.specs.Faults.{number_of, wrong_of}
use Rattle.reply.proofs.Faults.{number_again}
use Rattle.graph_tests.specs.declared.Tests.{Tests}
use Rattle.theory.specs.Writing.Lent.{Wrote}
use Rattle.sets.specs.Front.{Front}
use Rattle.case_sheet.proofs.Laws.{accept_ready, accept_words}
use Rattle.case_sheet.proofs.Laws as Read
use Rattle.desk_split.proofs.Callers.{front_of}
use Rattle.desk_rooms.specs.Rooms.{check_room}
use Rattle.clerk_rounds.specs.Lines.{sheet_text}
use Rattle.clerk_rounds.proofs.Callers.{sheet_told_lem}

-- what is told of a sheet in order is short
order_short : (sh : M.Sheet) → Well sh → (o : Option (List ℕ)) → length (order_told sh o) ≤ check_room
order_short sh well (some o) = omega (arith, sheet_short sh well)
order_short sh well none = omega (arith, circle_short sh well)

module _ (s : List ℕ) (p : Result SheetRead Wrong) (told : p ≡ as_sheet_read (paper 1 sheet_bytes sheet s)) where
  wrong : (w : Wrong) → p ≡ Err w → paper 1 sheet_bytes sheet s ≡ refused (number_of w.fault) 1 w.line
  unfolding read_sheet
  wrong w off = go (paper 1 sheet_bytes sheet s) refl
    where
      go : (x : Answer M.Sheet) → paper 1 sheet_bytes sheet s ≡ x → paper 1 sheet_bytes sheet s ≡ refused (number_of w.fault) 1 w.line
      go (taken sh) e = let z : ◌≡◌ {A = Result SheetRead Wrong} (Err w) (as_sheet_read (taken sh)) = sym off ∙ told ∙ ap as_sheet_read e in cc
      go (refused n q l) e =
          let z : ◌≡◌ {A = Result SheetRead Wrong} (Err w) (as_sheet_read (refused n q l)) = sym off ∙ told ∙ ap as_sheet_read e in
          let y : w ≡ wrong_of n l = cc in
          let h = (sheet_tells s).told n q l (rw e) in
          rw (y, number_again n h.0 (omega (arith, h.1))) (e ∙ ap (λ p. refused n p l) h.2)

  pub check_wrong : (w : Wrong) → p ≡ Err w → (k : ℕ) → k ≡ number_of w.fault → (o o1 : List ℕ) (q : ℕ) → Wrote 0 (refusal_text k 1 w.line) o o1 q
      → Front (check_output s) q o o1
  unfolding check_output check_printed
  check_wrong w off k m o o1 q v =
      rw (wrong w off) (front_of (refusal_text (number_of w.fault) 1 w.line) o o1 q (subst (λ k. Wrote 0 (refusal_text k 1 w.line) o o1 q) m v))

  module _ (r : SheetRead) (on : p ≡ Ok r) where
    abbrev sh : M.Sheet
    sh = (Read.up s p told r on).sh

    well : Well sh
    well = Read.well s p told r on

    pub check_sized : Sized r.heads
    check_sized = rw (Read.up s p told r on).same (sized sh.heads well.heads)

    module _ (w : List ℕ) (put : w ≡ words_read (paper 1 sheet_bytes sheet s)) (t : Tests) (made_of : t ≡ Read.tests_read r) where
      text_is : sheet_text r.heads r.rules.count r.rules.leaves w (take t.count t.rows) ≡ order_told sh (testing_order sh)
      unfolding as_rules
      text_is =
          ap (λ (q : SheetRead). sheet_text q.heads q.rules.count q.rules.leaves w (take t.count t.rows)) (Read.up s p told r on).same
          ∙ sheet_told_lem sh well t w (Read.tests_told s p told r on t made_of) (Read.words_are s p told r on w put)

      pub check_fits : (o : List ℕ) → check_room ≤ length o
          → length (sheet_text r.heads r.rules.count r.rules.leaves w (take t.count t.rows)) ≤ length o
      check_fits o h = rw text_is (omega (arith, order_short sh well (testing_order sh)))

      pub check_told : (o o1 : List ℕ) (q : ℕ)
          → Wrote 0 (sheet_text r.heads r.rules.count r.rules.leaves w (take t.count t.rows)) o o1 q → Front (check_output s) q o o1
      unfolding check_output check_printed
      check_told o o1 q v =
          rw (Read.up s p told r on).is (front_of (order_told sh (testing_order sh)) o o1 q (subst (λ w. Wrote 0 w o o1 q) text_is v))

pub ruleset checking = (check_wrong, check_sized, accept_ready, accept_words, check_fits, check_told)
