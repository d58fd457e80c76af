-- Laws of a rule's whole line behind its key.
use Prim.Native.Nat.{ℕ, suc, ◌+◌, ◌*◌, ◌^◌, ◌≤◌, ◌<◌}
use mathlib.Core.Path.{◌≡◌, refl, ◌∙◌, ap, subst}
use mathlib.Core.Bool.{Bool}
use mathlib.Core.List.{List}
use mathlib.Core.Option.{Option}
use native.Mathlib.Omega.{arith}
use lib.ListN.{length, drop}
use Rattle.std.specs.Prelude.{Result, Ok, Err}
use Rattle.meaning.specs.Limits.{leaf_limit}
use Rattle.meaning.specs.Reading.{Got, got, wrong, Reader, after, give}
use Rattle.meaning.specs.Name.{Name}
use Rattle.meaning.specs.Condition.{Cond}
use Rattle.meaning.specs.Sheet as M
use Rattle.meaning.specs.Sheet.{leaves_of}
use Rattle.meaning.specs.ReadSheet.{Begun, begun, ending, rule}
use Rattle.theory.specs.Reading.BuiltPapers.{begun_built}
use Rattle.theory.specs.Reading.Told.{Any}
use Rattle.theory.specs.Reading.Answered.{Ends, inline_ends, ends_after, ends_map, Left, left_start, left_at}
use Rattle.theory.specs.Reading.Piece.{Off, off_answer, left_piece, Next, piece_on, piece_off}
use Rattle.reply.specs.declared.Fault.{Fault}
use Rattle.reply.specs.Faults.{fault_of}
use Rattle.sheet_trigger.specs.declared.Start.{Start}
use Rattle.sheet_trigger.specs.Answers.{start_at, as_start}
use Rattle.cond_item.specs.declared.Place.{Place}
use Rattle.cond_item.specs.Answers.{cleared, Stored}
use Rattle.cond_item.specs.Answers.{place_at}
use Rattle.cond_item.proofs.Callers.{stored_read, stored_cleared}
use Rattle.sheet_rule.specs.declared.Row.{Row}
use Rattle.sheet_rule.specs.Answers.{row_at, as_row, rule_space}
use Rattle.sheet_tables.specs.Rules.{words_of, as_rule}
use Rattle.sheet_rule.specs.Parts.{as_ending, row_of, Fit}
use Rattle.sheet_rule.proofs.Endings.{Few, ending_ends}

-- what is known of a rule that was read behind l leaves
abbrev pub FewRule : ℕ → M.Rule → ℕ → Type 0
FewRule l r n = Few l r.condition n

abbrev ws : M.Rule → List ℕ
ws r = words_of r.condition

abbrev rule_of : Begun → Option Cond → M.Rule
rule_of b c = record { sign = b.sign; status = b.status; trigger = b.trigger; condition = c }

module _ (fs es ss : List Name) (l : ℕ) where
  abbrev line : Reader M.Rule
  line = rule fs es ss l

  -- what is read behind the start of the line
  abbrev ends : Begun → Reader M.Rule
  ends b = λ k s. after (ending fs ss b.on l k s) (λ c. give (rule_of b c))

  pub row_ends : (s : List ℕ) → Ends suc (FewRule l) line s
  unfolding rule
  row_ends s = ends_after (FewRule l) ends (inline_ends (begun_built es ss) s) λ b n _.
      ends_map (rule_of b) (λ c m h. h) (ending_ends fs ss b.on l (drop n s))

  module _ (s : List ℕ) (top : ℕ) (b : Result Start Fault) (is : b ≡ as_start s (begun es ss 0 s)) where
    module _ (e : Fault) (told : b ≡ Err e) where
      unbegun : Off fault_of (line 0 s) 0 e
      unfolding rule
      unbegun = piece_off start_at fault_of (inline_ends (begun_built es ss)) ends (left_start line 0 s) s refl b is e told

      pub row_unbegun : Err e ≡ as_row s top l (line 0 s)
      row_unbegun = off_answer (row_at top l) s unbegun

      pub row_unbegun_space : (was : List ℕ) → Stored ws was was top (line 0 s)
      row_unbegun_space was = rw unbegun.told refl

    module _ (a : Start) (told : b ≡ Ok a) where
      start : Next start_at (λ b n. Any b) (line 0 s) ends 0 0 s a
      unfolding rule
      start = piece_on start_at fault_of (inline_ends (begun_built es ss)) ends (left_start line 0 s) s refl b is a told

      start_bytes : a.bytes ≡ start.bytes
      start_bytes = ap (λ (a : Start). a.bytes) start.same

      came : Left (line 0 s) (ends start.value) 0 a.bytes s
      came = left_at start.left a.bytes (omega (arith, start_bytes))

      module _ (u : List ℕ) (at : u ≡ drop a.bytes s) where
        abbrev tail : Bool → Got (Option Cond)
        tail on = ending fs ss on l 0 u

        on_is : (Q : Got (Option Cond) → Type 0) → Q (tail a.on) → Q (tail start.value.on)
        on_is Q h = subst (λ on. Q (tail on)) (ap (λ (a : Start). a.on) start.same) h

        pub row_space : (was now : List ℕ) → Stored words_of was now top (tail a.on) → Stored ws was now top (line 0 s)
        row_space was now h = go (tail start.value.on) (came.is ∙ rw (← at)) (on_is (Stored words_of was now top) h)
          where
            go : (g : Got (Option Cond)) → line 0 s ≡ after g (λ c. give (rule_of start.value c)) → Stored words_of was now top g
                → Stored ws was now top (line 0 s)
            go (got c k t) e h = rw e h
            go (wrong n k) e h = rw e h

        module _ (e : Result Place Fault) (so : e ≡ as_ending u top l (tail a.on)) where
          abbrev placed : Option Cond → ℕ → Place
          placed = place_at words_of leaves_of top l

          answer : e ≡ as_ending u top l (tail start.value.on)
          answer = on_is (λ g. e ≡ as_ending u top l g) so

          pub row_unended : (k : Fault) → e ≡ Err k → Err k ≡ as_row s top l (line 0 s)
          row_unended k refused = off_answer (row_at top l) s (piece_off placed fault_of (ending_ends fs ss start.value.on l) _ came u at e answer k refused)

          module _ (p : Place) (yes : e ≡ Ok p) where
            whole : Next placed (Few l) (line 0 s) (λ c. give (rule_of start.value c)) 1 a.bytes s p
            whole = piece_on placed fault_of (ending_ends fs ss start.value.on l) _ came u at e answer p yes

            end_bytes : p.bytes ≡ whole.bytes
            end_bytes = ap (λ (p : Place). p.bytes) whole.same

            pub row_made : l ≤ leaf_limit → top ≤ 2 * l → length s < 2 ^ 64 → Fit a p top
            row_made few small big =
                let t : p.top ≡ top + length (words_of whole.value) = ap (λ (p : Place). p.top) whole.same in
                record {
                  from = omega arith;
                  to = omega (arith, whole.holds.0 few, whole.holds.1);
                  bytes = omega (arith, end_bytes, whole.left.within);
                }

            pub row_read : (v : Row) → v ≡ row_of a p top → Ok v ≡ as_row s top l (line 0 s)
            unfolding as_rule
            row_read v w =
                let y = start.same in
                let z = whole.same in
                left_piece (row_at top l) fault_of whole.left v cc

pub ruleset rowing = (row_unbegun, row_unbegun_space, row_unended, row_space, row_made, row_read)

-- THE LENT WORDS: a rule's are there, and behind a refused line they are cleared
module _ (s was is : List ℕ) (top l : ℕ) (g : Got M.Rule) (r : Result Row Fault) (told : r ≡ as_row s top l g) (h : Stored ws was is top g) where
  pub rule_stored : (a : Row) → r ≡ Ok a → is ≡ rule_space was top g
  rule_stored a e = stored_read (row_at top l) fault_of ws s was is top g r told h a e

  pub rule_cleared : (e : Fault) → r ≡ Err e → length is ≡ length was → (end : List ℕ) → end ≡ cleared is top → end ≡ rule_space was top g
  rule_cleared e q = stored_cleared (row_at top l) fault_of ws s was is top g r told h e q

pub ruleset storing = (rule_stored, rule_cleared)
