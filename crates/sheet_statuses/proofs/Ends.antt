-- The end of a status's line: the returns of `stage_over` and of `under_end`, and what its answer tells.
use Prim.Native.Nat.{ℕ, suc, ◌+◌, ◌-◌, ◌^◌, ◌<◌, ◌≤◌}
use mathlib.Core.Path.{◌≡◌, refl, sym, ◌∙◌, ap, ap₂}
use mathlib.Core.Bool.{Bool, true, false, not}
use mathlib.Core.List.{List}
use mathlib.Core.Option.{Option, none, some}
use native.Mathlib.Omega.{arith}
use borrow.Author.Tests.{not-true, not-false}
use lib.ListN.{length, take, drop, length-take}
use mir.Val.{Fits}
use mir.Syntax.{w64}
use Rattle.std.specs.Prelude.{Result, Ok, Err}
use Rattle.meaning.specs.Text.{text, begins}
use Rattle.meaning.specs.Refusal.{LINE}
use Rattle.meaning.specs.Reading.{after, give, due}
use Rattle.meaning.specs.Name.{Name, known}
use Rattle.meaning.specs.ReadSheet.{under}
use Rattle.theory.specs.Reading.Answered.{Ends, here, Left, left_at, ends_after, ends_map, ensured_ends, inline_ends, line_ends}
use Rattle.theory.specs.Reading.Built.{give_built, choose_built, bind_built, stands_built, known_built, line_fault}
use Rattle.theory.specs.Reading.Piece.{Next, piece_on, piece_off, off_answer, left_piece}
use Rattle.theory.specs.Reading.Readers.{give_ensures, choose_ensures, bind_ensures, after_after}
use Rattle.theory.specs.Papers.Names.{known_below}
use Rattle.text.proofs.Callers.{begins_fits, stands_here, stands_not}
use Rattle.reply.specs.declared.Fault.{Fault}
use Rattle.reply.specs.Faults.{fault_of}
use Rattle.text.specs.declared.Taken.{Taken}
use Rattle.text.specs.Pieces.{as_length}
use Rattle.name.proofs.Callers.{known_ends}
use Rattle.name.specs.Answers.{as_known}
use Rattle.name.proofs.Callers.{known_place}
use Rattle.sheet_tables.specs.Heads.{under_code}
use Rattle.sheet_section.proofs.Ends.{closing, end_off, end_on}
use Rattle.sheet_statuses.specs.Answers.{as_under, over}

abbrev as_place : ℕ → ℕ → Taken ℕ
as_place i n = record { value = i; bytes = n }

abbrev pub as_stage : Option ℕ → ℕ → Taken ℕ
as_stage o n = record { value = under_code o; bytes = n }

-- THE STAGE
module _ (ns : List Name) (t : List ℕ) (b : Bool) (tested : b ≡ begins (text " ") t) where
  pub over_bare : not b ≡ true → Ok (record { value = 0; bytes = 0 }) ≡ as_under t (over ns 0 t)
  unfolding over
  over_bare e =
      let bare : Left (over ns 0 t) (give none) 0 0 t = record { within = omega arith; is = rw (stands_not (text " ") 0 t b tested (not-true b e)) } in
      left_piece as_stage fault_of bare (record { value = 0; bytes = 0 }) refl

  module _ (e : not b ≡ false) (v : List ℕ) (p : Result (Taken ℕ) Fault) (rest : v ≡ drop 1 t) (read : p ≡ as_known v (known ns 0 v)) where
    spaced : Left (over ns 0 t) (λ l u. after (known ns l u) (λ i. give (some i))) 0 1 t
    unfolding over
    spaced =
        record {
          within = begins_fits (text " ") t (sym tested ∙ not-false b e);
          is = rw (stands_here (text " ") 0 t b tested (not-false b e));
        }

    pub over_unknown : (d : Fault) → p ≡ Err d → Err d ≡ as_under t (over ns 0 t)
    over_unknown d z = off_answer as_stage t (piece_off as_place fault_of (known_ends ns) (λ i. give (some i)) spaced v rest p read d z)

    module _ (k : Taken ℕ) (z : p ≡ Ok k) where
      placed : Next as_place (λ i n. (i < length ns) × (n ≤ Rattle.meaning.specs.Limits.name_bytes)) (over ns 0 t) (λ i. give (some i)) 0 1 t k
      placed = piece_on as_place fault_of (known_ends ns) (λ i. give (some i)) spaced v rest p read k z

      value : k.value ≡ placed.value
      value = ap (λ (k : Taken ℕ). k.value) placed.same

      bytes : k.bytes ≡ placed.bytes
      bytes = ap (λ (k : Taken ℕ). k.bytes) placed.same

      pub over_room : length t < 2 ^ 64 → Fits w64 (k.bytes + 1)
      over_room h = omega (arith, placed.left.within, bytes)

      pub over_known : (r : Taken ℕ) → r ≡ record { value = k.value + 1; bytes = k.bytes + 1 } → Ok r ≡ as_under t (over ns 0 t)
      over_known r is =
          let x : k.value + 1 ≡ suc placed.value = omega (arith, value) in
          let y : k.bytes + 1 ≡ 1 + placed.bytes = omega (arith, bytes) in
          left_piece as_stage fault_of placed.left r (is ∙ ap₂ as_place x y)

-- a place in a part of a table fits
pub over_fits : (l : List Name) (from to : ℕ) (v : List ℕ) (p : Result (Taken ℕ) Fault) (k : Taken ℕ)
    → p ≡ as_known v (known (take (to - from) (drop from l)) 0 v) → p ≡ Ok k → Fits w64 to → Fits w64 (k.value + 1)
over_fits l from to v p k read z h = omega (arith, known_place p _ v read k z, length-take (to - from) (drop from l))

pub ruleset overing = (over_bare, over_unknown, over_room, over_known, over_fits)

over_ends : (ns : List Name) (t : List ℕ) → Ends here (λ o n. under_code o ≤ length ns) (over ns) t
unfolding over
over_ends ns t =
    ends_after (λ o n. under_code o ≤ length ns) _ (inline_ends (stands_built (text " ")) t) λ b n _.
    ensured_ends (choose_built b (bind_built (known_built ns) λ i. give_built) give_built)
    (choose_ensures b (bind_ensures (known_below ns) λ i h. give_ensures (omega arith)) (give_ensures (omega arith))) (drop n t)

-- AND THE LINE'S END
under_is : (ns : List Name) (l : ℕ) (t : List ℕ) → under ns l t ≡ after (over ns l t) (λ o. closing (give o))
unfolding under over
under_is ns l t = simp after_after

pub under_ends : (ns : List Name) (t : List ℕ) → Ends suc (λ o n. (under_code o ≤ length ns) × (1 ≤ n)) (under ns) t
under_ends ns t = go (ends_after (λ o n. (under_code o ≤ length ns) × (1 ≤ n)) (λ o. closing (give o)) (over_ends ns t) λ o n h.
    ends_map {Q = λ o k. (under_code o ≤ length ns) × (1 ≤ n + k)} (λ _. o) (λ u k e. (h, omega arith)) (line_ends line_fault (drop n t)))
  where
    go : Ends suc (λ o n. (under_code o ≤ length ns) × (1 ≤ n)) (λ l t. after (over ns l t) (λ o. closing (give o))) t
        → Ends suc (λ o n. (under_code o ≤ length ns) × (1 ≤ n)) (under ns) t
    go (Ends.found o n p m e) = Ends.found o n p m (λ l. under_is ns l t ∙ e l)
    go (Ends.faulty k e) = Ends.faulty k (λ l. under_is ns l t ∙ e l)

module _ (ns : List Name) (t : List ℕ) (p : Result (Taken ℕ) Fault) (read : p ≡ as_under t (over ns 0 t)) where
  start : Left (under ns 0 t) (λ l t. after (over ns l t) (λ o. closing (give o))) 0 0 t
  start = record { within = omega arith; is = under_is ns 0 t }

  pub under_wrong : (d : Fault) → p ≡ Err d → Err d ≡ as_under t (under ns 0 t)
  under_wrong d z = off_answer as_stage t (piece_off as_stage fault_of (over_ends ns) (λ o. closing (give o)) start t refl p read d z)

  module _ (k : Taken ℕ) (z : p ≡ Ok k) (u : List ℕ) (d : Result ℕ Fault) (rest : u ≡ drop k.bytes t) (asked : d ≡ as_length u (due LINE (text "\n") 0 u)) where
    told : Next as_stage (λ o n. under_code o ≤ length ns) (under ns 0 t) (λ o. closing (give o)) 0 0 t k
    told = piece_on as_stage fault_of (over_ends ns) (λ o. closing (give o)) start t refl p read k z

    left : Left (under ns 0 t) (closing (give told.value)) 0 k.bytes t
    left = left_at told.left k.bytes (omega (arith, ap (λ (k : Taken ℕ). k.bytes) told.same))

    pub under_open : (e : Fault) → d ≡ Err e → Err e ≡ as_under t (under ns 0 t)
    under_open e y = off_answer as_stage t (end_off (give told.value) left u rest d asked e y)

    pub under_room : (n : ℕ) → d ≡ Ok n → length t < 2 ^ 64 → Fits w64 (k.bytes + n)
    under_room n y h = let o = end_on (give told.value) left u rest d asked n y in omega (arith, o.left.within, o.same)

    pub under_read : (n : ℕ) → d ≡ Ok n → (r : Taken ℕ) → r ≡ record { value = k.value; bytes = k.bytes + n } → Ok r ≡ as_under t (under ns 0 t)
    under_read n y r is =
        let o = end_on (give told.value) left u rest d asked n y in
        let far : k.bytes + n ≡ k.bytes + o.bytes = omega (arith, o.same) in
        left_piece as_stage fault_of o.left r (is ∙ ap₂ as_place (ap (λ (k : Taken ℕ). k.value) told.same) far)

pub ruleset undering = (under_wrong, under_open, under_room, under_read)
