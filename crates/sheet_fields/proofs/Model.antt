-- The line `model=`: the returns of `model_line` and of `read_model`.
use Prim.Native.Nat.{ℕ, suc, ◌+◌}
use mathlib.Core.Path.{◌≡◌, refl, ◌∙◌, ap, ap₂}
use mathlib.Core.List.{List}
use native.Mathlib.Omega.{arith}
use lib.ListN.{drop}
use Rattle.std.specs.Prelude.{Result, Ok, Err}
use Rattle.meaning.specs.Text.{text, joined}
use Rattle.meaning.specs.Refusal.{LINE}
use Rattle.meaning.specs.Reading.{Reader, after, give, due}
use Rattle.meaning.specs.Name.{Name, name}
use Rattle.meaning.specs.Sheet as M
use Rattle.meaning.specs.Sheet.{event_names, status_names, statuses, all_names, headed}
use Rattle.meaning.specs.ReadSheet.{model_line}
use Rattle.theory.specs.Lists.Padded.{padded}
use Rattle.theory.specs.Reading.Answered.{Ends, Left, left_start, left_at, ends_after, ends_map, inline_ends, line_ends}
use Rattle.theory.specs.Reading.Built.{name_built, line_fault}
use Rattle.theory.specs.Reading.Fixed.{due_ends}
use Rattle.theory.specs.Reading.Piece.{Next, piece_took, piece_refuses, piece_on, piece_off, off_answer, left_piece}
use Rattle.reply.specs.declared.Fault.{Fault}
use Rattle.reply.specs.Faults.{fault_of}
use Rattle.text.specs.declared.Taken.{Taken}
use Rattle.text.specs.Pieces.{as_length}
use Rattle.name.specs.declared.Name.{Name as Kept}
use Rattle.name.specs.Names.{kept}
use Rattle.name.specs.Answers.{as_name}
use Rattle.sheet_tables.specs.declared.Heads.{Heads}
use Rattle.sheet_tables.specs.Heads.{as_heads, blank}
use Rattle.sheet_section.specs.Answers.{as_above}
use Rattle.sheet_section.proofs.Ends.{closing, end_off, end_on}
use Rattle.sheet_section.proofs.Rows.{tabled}
use Rattle.sheet_section.proofs.Sections.{read_got}
use Rattle.sheet_fields.specs.Answers.{as_model}

-- behind the name
abbrev ending : Name → Reader M.Heads
ending w = closing (give (headed w))

-- THE LINE, piece by piece
abbrev as_taken : Kept → ℕ → Taken Kept
as_taken w n = record { value = w; bytes = n }

abbrev as_text : Unit {0} → ℕ → ℕ
as_text u n = n

abbrev as_word : Name → ℕ → Taken Kept
as_word w n = record { value = kept w; bytes = n }

abbrev as_line : M.Heads → ℕ → Taken Kept
as_line hd n = record { value = kept hd.model; bytes = n }

module _ (s : List ℕ) (p : Result ℕ Fault) (is : p ≡ as_length s (due LINE (text "model=") 0 s)) where
  abbrev told : Result (Taken Kept) Fault
  told = as_model s (model_line 0 s)

  start : Left (model_line 0 s) (λ l t. after (due LINE (text "model=") l t) (λ u l t. after (name l t) ending)) 0 0 s
  unfolding model_line
  start = left_start model_line 0 s

  pub model_other : (e : Fault) → p ≡ Err e → Err e ≡ told
  model_other e z = off_answer as_line s (piece_off as_text fault_of (due_ends LINE (text "model=")) _ start s refl p is e z)

  module _ (k : ℕ) (key : p ≡ Ok k) (v : List ℕ) (q : Result (Taken Kept) Fault) (rest : v ≡ drop k s) (read : q ≡ as_name v (name 0 v)) where
    keyed : Left (model_line 0 s) (λ l t. after (name l t) ending) 0 k s
    keyed =
        let o = piece_on as_text fault_of (due_ends LINE (text "model=")) _ start s refl p is k key in
        let n : k ≡ o.bytes = o.same in
        left_at o.left k (omega (arith, n))

    pub model_misnamed : (e : Fault) → q ≡ Err e → Err e ≡ told
    model_misnamed e z = off_answer as_line s (piece_off as_word fault_of (inline_ends name_built) ending keyed v rest q read e z)

    module _ (w : Taken Kept) (word : q ≡ Ok w) (at : ℕ) (at_is : at ≡ k + w.bytes) (u : List ℕ) (d : Result ℕ Fault) (behind : u ≡ drop at s)
        (asked : d ≡ as_length u (due LINE (text "\n") 0 u)) where
      spelt : Next as_word (λ w n. Rattle.theory.specs.Reading.Told.Any w) (model_line 0 s) ending 0 k s w
      spelt = piece_on as_word fault_of (inline_ends name_built) ending keyed v rest q read w word

      worded : Left (model_line 0 s) (ending spelt.value) 0 at s
      worded = left_at spelt.left at (omega (arith, at_is, ap (λ (w : Taken Kept). w.bytes) spelt.same))

      pub model_open : (e : Fault) → d ≡ Err e → Err e ≡ told
      model_open e z = off_answer as_line s (end_off (give (headed spelt.value)) worded u behind d asked e z)

      pub model_closed : (n : ℕ) → d ≡ Ok n → (b : Taken Kept) → b ≡ record { value = w.value; bytes = at + n } → Ok b ≡ told
      model_closed n z b e =
          let o = end_on (give (headed spelt.value)) worded u behind d asked n z in
          let far : at + n ≡ at + o.bytes = omega (arith, o.same) in
          left_piece as_line fault_of o.left b (e ∙ ap₂ as_taken (ap (λ (w : Taken Kept). w.value) spelt.same) far)

pub ruleset lining = (model_other, model_misnamed, model_open, model_closed)

-- THE MODEL
model_ends : (s : List ℕ) → Ends suc (λ hd n. hd ≡ headed hd.model) model_line s
unfolding model_line
model_ends s =
    ends_after (λ hd n. hd ≡ headed hd.model) _ (due_ends LINE (text "model=") s) λ u n _.
    ends_after (λ hd k. hd ≡ headed hd.model) _ (inline_ends name_built (drop n s)) λ w k _.
    ends_map (λ _. headed w) (λ u i e. refl) (line_ends line_fault (drop k (drop n s)))

module _ (s : List ℕ) (o : Result (Taken Kept) Fault) (is : o ≡ as_model s (model_line 0 s)) where
  pub model_wrong : (e : Fault) → o ≡ Err e → (l : ℕ) → l ≡ 1 → Err (record { fault = e; line = l }) ≡ as_above s (model_line 1 s)
  model_wrong e z l y = let h = piece_refuses as_line fault_of (model_ends s) o is e z in rw (h.is, y, h.reads 1)

  pub model_read : (w : Taken Kept) → o ≡ Ok w → (h : Heads) → h ≡ blank → (l : ℕ) → l ≡ 2
      → Ok (record { line = l; at = w.bytes; heads = tabled w.value h.fields h.events h.stages h.miles h.names h.carried h.carries h.under })
      ≡ as_above s (model_line 1 s)
  unfolding as_heads padded all_names event_names status_names statuses joined
  model_read w z h e l y =
      let o = piece_took as_line fault_of (model_ends s) o is w z in
      let hd : o.value ≡ headed o.value.model = o.holds in
      let n : w.bytes ≡ o.bytes = ap (λ (w : Taken Kept). w.bytes) o.same in
      read_got {hd = headed o.value.model}
      (record { line = l; at = w.bytes; heads = tabled w.value h.fields h.events h.stages h.miles h.names h.carried h.carries h.under })
      (rw e (ap (λ (w : Taken Kept). tabled w.value 0 0 0 0 blank.names blank.carried blank.carries blank.under) o.same))
      (left_at (record { within = o.within; is = rw (y, o.reads 1, ← hd) }) w.bytes n)

pub ruleset modelling = (model_wrong, model_read)
