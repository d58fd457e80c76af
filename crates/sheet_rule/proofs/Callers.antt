-- For callers: what the answer of `read_rule` tells of the line, whatever its number.
use Prim.Native.Nat.{ℕ, suc, ◌+◌, ◌≤◌}
use mathlib.Core.Path.{◌≡◌, refl}
use mathlib.Core.List.{List}
use lib.ListN.{length, drop}
use Rattle.std.specs.Prelude.{Result, Ok, Err}
use Rattle.meaning.specs.Reading.{got, Reader}
use Rattle.meaning.specs.Name.{Name}
use Rattle.meaning.specs.Sheet as M
use Rattle.meaning.specs.Sheet.{leaves_of}
use Rattle.meaning.specs.ReadSheet.{rule}
use Rattle.theory.specs.Reading.Piece.{Refuses, piece_took, piece_refuses}
use Rattle.reply.specs.declared.Fault.{Fault}
use Rattle.reply.specs.Faults.{fault_of}
use Rattle.sheet_tables.specs.Rules.{words_of, as_rule}
use Rattle.sheet_rule.specs.declared.Row.{Row}
use Rattle.sheet_rule.specs.Answers.{row_at, as_row}
use Rattle.sheet_rule.proofs.Rows as Rows

-- the rule for which a row stands
pub record Rowed (r : Reader M.Rule) (s : List ℕ) (top leaves : ℕ) (a : Row) : Type 0 where
  pub value : M.Rule
  pub few : Rows.FewRule leaves value 0
  pub within : a.bytes ≤ length s
  pub reads : (l : ℕ) → r l s ≡ got value (suc l) (drop a.bytes s)
  pub rule_is : a.rule ≡ as_rule top value
  pub top_is : a.top ≡ top + length (words_of value.condition)
  pub leaves_is : a.leaves ≡ leaves + length (leaves_of value.condition)

module _ (fs es ss : List Name) (s : List ℕ) (top leaves : ℕ) (c : Result Row Fault) (is : c ≡ as_row s top leaves (rule fs es ss leaves 0 s)) where
  pub row_wrong : (e : Fault) → c ≡ Err e → Refuses fault_of (rule fs es ss leaves) s e
  row_wrong e z = piece_refuses (row_at top leaves) fault_of (Rows.row_ends fs es ss leaves s) c is e z

  pub row_got : (a : Row) → c ≡ Ok a → Rowed (rule fs es ss leaves) s top leaves a
  row_got a e =
      let f = piece_took (row_at top leaves) fault_of (Rows.row_ends fs es ss leaves s) c is a e in
      rw f.same (record { value = f.value; few = f.holds; within = f.within; reads = f.reads; rule_is = refl; top_is = refl; leaves_is = refl })
