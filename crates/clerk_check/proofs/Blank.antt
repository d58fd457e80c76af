-- The blank card: the next card of a card that shows `?` everywhere and of no event, and what is printed for a sheet, return by return.
use Prim.Native.Nat.{ℕ, zero, suc, ◌+◌, ◌<◌, ◌≤◌}
use mathlib.Core.Path.{◌≡◌, refl, ◌∙◌, ap, ap₂}
use mathlib.Core.Bool.{true, false}
use mathlib.Core.List.{List, [], ◌∷◌, ◌++◌, map}
use native.Mathlib.Omega.{arith}
use borrow.Author.Tests.{le-leb}
use lib.Dec.{leb}
use lib.ListN.{length, length-append, length-map, length-take, take, drop, replicate, get_or-replicate}
use Rattle.std.specs.Prelude.{Option, Some, unwrap_or}
use Rattle.meaning.specs.Text.{text, from}
use Rattle.meaning.specs.Limits.{field_limit, status_limit}
use Rattle.meaning.specs.Name.{Name}
use Rattle.meaning.specs.Number.{Entry}
use Rattle.meaning.specs.Sheet.{statuses}
use Rattle.meaning.specs.Write.{card_text}
use Rattle.meaning.specs.Doors.{read_sheet}
use Rattle.meaning.specs.Desk.{refusal_text}
use Rattle.meaning.specs.Clerk.{unasked, blank_card, blank_printed, blank_output}
use Rattle.theory.specs.Lists.Members.{from_length}
use Rattle.theory.specs.Clerk.Blank.{blank_short}
use Rattle.name.specs.Names.{names_in}
use Rattle.marks.specs.Codes.{is_yes}
use Rattle.sheet_tables.specs.declared.Heads.{Heads}
use Rattle.sheet_tables.specs.Heads.{Sized, heads_of, names_at, status_at}
use Rattle.case_tables.specs.Cards.{no_happening}
use Rattle.theory.specs.Writing.Lent.{Wrote}
use Rattle.card_write.specs.Texts.{showing, value_text, next_text}
use Rattle.card_write.specs.Answers.{as_written, space_with}
use Rattle.sets.specs.Front.{Front}
use Rattle.step_sheet.specs.declared.Accepted.{Accepted}
use Rattle.step_sheet.specs.Answers.{as_accepted}
use Rattle.case_sheet.proofs.Callers.{accept_read, accept_wrong, accept_sized, accept_heads}
use Rattle.desk_split.proofs.Callers.{front_of}
use Rattle.desk_rooms.specs.Rooms.{card_room}
use Rattle.clerk_check.specs.Blank.{unasked_card}

-- THE TEXT

-- every field shows `?`
unasked_shown : (event : List ℕ) (f : ℕ) → f < field_limit → value_text event (text "?") no_happening unasked_card f ≡ text "?"
unfolding value_text
unasked_shown event f h = rw (get_or-replicate {A = ℕ} field_limit f 0 0 h, get_or-replicate {A = ℕ} field_limit f 1 0 h)

unasked_entries : (t : ℕ → List ℕ) (ns : List Name) (i : ℕ) → ((k : ℕ) → k < i + length ns → t k ≡ text "?")
    → map (λ f. showing (t f)) (from i (length ns)) ≡ map (λ n. unasked) ns
unfolding from
unasked_entries t [] i h = refl
unasked_entries t (n ∷ ns) i h =
    ap₂ (λ (e : Entry) es. e ∷ es) (ap showing (h i (omega arith))) (unasked_entries t ns (suc i) (λ k g. h k (omega arith)))

-- no status is yes
unasked_marks : {A : Type 0} (xs : List A) (n : ℕ) → length xs ≤ n → map is_yes (take (length xs) (replicate n 0)) ≡ map (λ x. false) xs
unasked_marks [] n h = refl
unasked_marks (x ∷ xs) zero h = absurd (omega arith)
unasked_marks (x ∷ xs) (suc n) h = ap (λ r. false ∷ r) (unasked_marks xs n (omega arith))

module _ (h : Heads) (sized : Sized h) where
  fields_few : length (heads_of h).fields ≤ field_limit
  unfolding heads_of names_at
  fields_few = omega (arith, length-take h.fields (drop 0 (names_in h.names)), sized.few_fields)

  statuses_few : length (statuses (heads_of h)) ≤ status_limit
  unfolding statuses heads_of
  statuses_few =
      let a = map (status_at h) (from 0 h.stages) in
      let b = map (status_at h) (from h.stages h.miles) in
      omega (
        arith,
        length-append a b,
        length-map (from 0 h.stages) (status_at h),
        length-map (from h.stages h.miles) (status_at h),
        from_length h.stages 0,
        from_length h.miles h.stages,
        sized.few_statuses,
      )

  blank_is : (event : List ℕ) → next_text (heads_of h) event (text "?") no_happening unasked_card (replicate status_limit 0) ≡ blank_card (heads_of h)
  unfolding next_text blank_card
  blank_is event =
      ap₂ (card_text (heads_of h))
      (unasked_entries (value_text event (text "?") no_happening unasked_card) (heads_of h).fields 0 (λ k g. unasked_shown event k (omega (arith, fields_few))))
      (unasked_marks (statuses (heads_of h)) status_limit statuses_few)

  -- IT FITS

  module _ (event o : List ℕ) (fits : length (blank_card (heads_of h)) ≤ length o) (w : Option ℕ)
      (told : w ≡ as_written o (next_text (heads_of h) event (text "?") no_happening unasked_card (replicate status_limit 0))) where
    fits_told : leb (length (blank_card (heads_of h))) (length o) ≡ true
    fits_told = le-leb (length (blank_card (heads_of h))) (length o) fits

    written_is : w ≡ Some (length (blank_card (heads_of h)))
    unfolding as_written
    written_is = told ∙ rw (blank_is event, fits_told)

    module _ (o1 : List ℕ) (space : o1 ≡ space_with o (next_text (heads_of h) event (text "?") no_happening unasked_card (replicate status_limit 0))) where
      space_is : o1 ≡ blank_card (heads_of h) ++ drop (length (blank_card (heads_of h))) o
      unfolding space_with
      space_is = space ∙ rw (blank_is event, fits_told)

      pub blank_done : (n : ℕ) → n ≡ unwrap_or w 0 → Front (blank_card (heads_of h)) n o o1
      blank_done n is =
          let count : n ≡ length (blank_card (heads_of h)) = is ∙ ap (λ x. unwrap_or x 0) written_is in
          record { count = count; list = rw count space_is }

-- THE SHEET

module _ (s : List ℕ) (x : Accepted) (told : x ≡ as_accepted (read_sheet s)) where
  pub blank_refused : (x.number ≡ 0 → ⊥) → (o o1 : List ℕ) (r : ℕ) → Wrote 0 (refusal_text x.number 1 x.line) o o1 r → Front (blank_output s) r o o1
  unfolding blank_output blank_printed
  blank_refused z o o1 r v = rw (accept_wrong s x told z) (front_of (refusal_text x.number 1 x.line) o o1 r v)

  module _ (zero : x.number ≡ 0) where
    pub blank_sized : Sized x.heads
    blank_sized = accept_sized s x told zero

    pub blank_fits : (o : List ℕ) → card_room ≤ length o → length (blank_card (heads_of x.heads)) ≤ length o
    blank_fits o h =
        let t = accept_read s x told zero in
        rw (accept_heads s x told zero) (omega (arith, blank_short t.sheet.sheet.heads t.well.heads))

    pub blank_taken : (o o1 : List ℕ) (r : ℕ) → Front (blank_card (heads_of x.heads)) r o o1 → Front (blank_output s) r o o1
    unfolding blank_output blank_printed
    blank_taken o o1 r f = rw (accept_read s x told zero).same (rw (accept_heads s x told zero) at f)

pub ruleset telling = (blank_refused, blank_sized, blank_fits, blank_taken)
