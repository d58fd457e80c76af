-- What a caller may conclude: of a case that was taken, a field's text is that of the entry after the step, and the next card is the meaning's.
use mathlib.Core.Path.{◌≡◌, refl, sym, ◌∙◌, ap, ap₂, subst}
use mathlib.Core.Bool.{Bool, true, false, cond}
use mathlib.Core.List.{List, [], ◌∷◌, ◌++◌, map}
use mathlib.Core.Logic.{inl, inr}
use Prim.Native.Nat.{ℕ, zero, suc, ◌+◌, ◌<◌, ◌≤◌}
use native.Mathlib.Omega.{arith}
use native.Mathlib.Decide.{ℕ_discrete}
use borrow.Author.Tests.{eq-eqb, ne_eqb, lt-ltb, le-ltb, ltb-true, ltb-false}
use lib.Dec.{eqb, ltb}
use lib.ListN.{length, take, drop, get_or, set, length-map, length-set, get_or-map}
use lib.Seq.{take_at, get_or-set_same, get_or-set_other}
use Rattle.meaning.specs.Text.{from, In}
use Rattle.meaning.specs.Limits.{field_limit, status_limit}
use Rattle.meaning.specs.Refusal.{taken}
use Rattle.meaning.specs.Name.{Name}
use Rattle.meaning.specs.Number.{Entry}
use Rattle.meaning.specs.Sheet.{Heads, statuses, event_names}
use Rattle.meaning.specs.Card as M
use Rattle.meaning.specs.Card.{Put, read_card, read_event}
use Rattle.meaning.specs.Step.{put_in}
use Rattle.meaning.specs.Write.{line, lines, card_text}
use Rattle.theory.specs.Lists.Members.{Once, from_length}
use Rattle.theory.specs.Papers.Formed.{WellHeads}
use Rattle.theory.specs.Papers.Cards.{CardIn}
use Rattle.theory.specs.Papers.Case.{card_holds}
use Rattle.theory.specs.Writing.ReadBack.{put_length}
use Rattle.theory.specs.Writing.Rows.{Rows, row_value, row_next, card_at, event_at_lem, once}
use Rattle.std.specs.Prelude.{◌==◌, Option, Some, None}
use Rattle.std.specs.Option.{option_map}
use Rattle.std.specs.List.{position_or_len}
use Rattle.std.proofs.lemmas.List.Quantifiers.{position-Some}
use Rattle.theory.specs.Lists.Padded.{padded, padded_take, padded_at}
use Rattle.marks.specs.Codes.{mark_code, is_yes, side_of}
use Rattle.marks.proofs.Callers.{side_again}
use Rattle.case_tables.specs.declared.Card.{Card}
use Rattle.case_tables.specs.declared.Happening.{Happening}
use Rattle.case_tables.specs.Cards.{value_places, as_card, as_happening}
use Rattle.card_write.specs.Texts.{part, carried_in, shown_by, value_text, showing, next_text}

-- ARRAYS

padded_all : (n : ℕ) (xs : List ℕ) (k : ℕ) → k ≡ length xs → take k (padded n 0 xs) ≡ xs
padded_all n xs k e = rw e (padded_take n 0 xs)

-- where the texts stand
module _ (s : List ℕ) where
  places_shown : (d : Entry) (ns : List Name) (es : List Entry) (p i : ℕ) → Rows (drop p s) ns es → length ns ≡ length es → i < length es
      → part s (get_or (value_places p ns es) i 0) (length (get_or es i d).shown) ≡ (get_or es i d).shown
  unfolding value_places
  places_shown d ns [] p i r l h = absurd (omega arith)
  places_shown d [] (e ∷ es) p i r l h = absurd (omega arith)
  places_shown d (n ∷ ns) (e ∷ es) p zero (b, u, q, r) l h =
      rw (row_value s p n e.shown b u q) (take_at e.shown (b ∷ u) (length e.shown) refl)
  places_shown d (n ∷ ns) (e ∷ es) p (suc i) (b, u, q, r) l h =
      places_shown d ns es (p + length n + 1 + length e.shown + 1) i (subst (λ t. Rows t ns es) (sym (row_next s p n e.shown b u q)) r) (omega arith)
      (omega arith)

-- WHAT IS PUT IN

-- the first place where a field stands
carried_here : (f x : ℕ) (xs : List ℕ) → x ≡ f → carried_in f (x ∷ xs) ≡ Some 0
carried_here f x xs e = rw (eq-eqb x f e) (ap (λ b. cond b (Some 0) None) (lt-ltb 0 (length (x ∷ xs)) (omega arith)))

carried_later : (f x : ℕ) (xs : List ℕ) → (x ≡ f → ⊥) → carried_in f (x ∷ xs) ≡ option_map suc (carried_in f xs)
carried_later f x xs e = rw (ne_eqb x f e) (go (position_or_len (λ y. y == f) xs) (length xs) (ltb (position_or_len (λ y. y == f) xs) (length xs)) refl)
  where
    go : (n m : ℕ) (b : Bool) → ltb n m ≡ b → cond (ltb (1 + n) (suc m)) (Some (1 + n)) None ≡ option_map suc (cond (ltb n m) (Some n) None)
    go n m true e =
        let l : n < m = ltb-true n m e in
        rw (e, lt-ltb (1 + n) (suc m) (omega arith)) (ap (λ k. Some k) (omega arith))
    go n m false e =
        let l : m ≤ n = ltb-false n m e in
        rw (e, le-ltb (1 + n) (suc m) (omega arith))

-- what is not among them is not found
found_none : (w : ℕ) (vs : List ℕ) → (In w vs → ⊥) → carried_in w vs ≡ None
found_none w [] h = refl
found_none w (v ∷ vs) h = carried_later w v vs (λ e. h (inl (sym e))) ∙ ap (option_map suc) (found_none w vs (λ i. h (inr i)))

put_kept : (d : Entry) (f : ℕ) (ps : List Put) (es : List Entry) → carried_in f (map (λ p. p.field) ps) ≡ None → get_or (put_in ps es) f d ≡ get_or es f d
unfolding put_in
put_kept d f [] es h = refl
put_kept d f (p ∷ ps) es h = go (ℕ_discrete p.field f) (carried_in f (map (λ p. p.field) ps)) refl (put_kept d f ps (set es p.field p.entry))
  where
    go : Dec (p.field ≡ f) → (x : Option ℕ) → carried_in f (map (λ p. p.field) ps) ≡ x
        → (carried_in f (map (λ p. p.field) ps) ≡ None → get_or (put_in ps (set es p.field p.entry)) f d ≡ get_or (set es p.field p.entry) f d)
        → get_or (put_in ps (set es p.field p.entry)) f d ≡ get_or es f d
    go (yes e) x q ih =
        let y = carried_here f p.field (map (λ p. p.field) ps) e in
        let z : ◌≡◌ {A = ℕ} 0 1 = cc in
        absurd (omega arith)
    go (no e) None q ih = ih q ∙ get_or-set_other es p.field f p.entry d (λ z. e (sym z))
    go (no e) (Some i) q ih =
        let y = carried_later f p.field (map (λ p. p.field) ps) e ∙ ap (option_map suc) q in
        let z : ◌≡◌ {A = ℕ} 0 1 = cc in
        absurd (omega arith)

put_found : (d : Entry) (q : Put) (f : ℕ) (ps : List Put) (es : List Entry) (i : ℕ) → f < length es → Once (map (λ p. p.field) ps)
    → carried_in f (map (λ p. p.field) ps) ≡ Some i → get_or (put_in ps es) f d ≡ (get_or ps i q).entry
unfolding put_in
put_found d q f [] es i l o h =
    let z : ◌≡◌ {A = ℕ} 0 1 = cc in
    absurd (omega arith)
put_found d q f (p ∷ ps) es i l o h = go (ℕ_discrete p.field f) (carried_in f (map (λ p. p.field) ps)) refl i h
    (λ j. put_found d q f ps (set es p.field p.entry) j (rw (length-set es p.field p.entry) l) o.1)
  where
    go : Dec (p.field ≡ f) → (x : Option ℕ) → carried_in f (map (λ p. p.field) ps) ≡ x → (i : ℕ) → carried_in f (p.field ∷ map (λ p. p.field) ps) ≡ Some i
        → ((j : ℕ) → carried_in f (map (λ p. p.field) ps) ≡ Some j → get_or (put_in ps (set es p.field p.entry)) f d ≡ (get_or ps j q).entry)
        → get_or (put_in ps (set es p.field p.entry)) f d ≡ (get_or (p ∷ ps) i q).entry
    go (yes e) x y i h ih =
        let first = carried_here f p.field (map (λ p. p.field) ps) e in
        let z : 0 ≡ i = cc in
        rw (← z) (put_kept d f ps (set es p.field p.entry) (found_none f (map (λ p. p.field) ps) (λ m. o.0 (rw e m))) ∙ rw e
        (get_or-set_same es f p.entry d l))
    go (no e) None y i h ih =
        let next = carried_later f p.field (map (λ p. p.field) ps) e ∙ ap (option_map suc) y in
        let z : ◌≡◌ {A = ℕ} 0 1 = cc in
        absurd (omega arith)
    go (no e) (Some j) y i h ih =
        let next = carried_later f p.field (map (λ p. p.field) ps) e ∙ ap (option_map suc) y in
        let z : suc j ≡ i = cc in
        rw (← z) (ih j y)

-- A CASE THAT WAS TAKEN

-- the texts in the code's tables
module _ (s : List ℕ) (d : Entry) (ns : List Name) (es : List Entry) (p : ℕ) (rows : Rows (drop p s) ns es) (long : length ns ≡ length es) where
  shown_at : (i : ℕ) → i < length es
      → part s (get_or (padded field_limit 0 (value_places p ns es)) i 0)
      (get_or (padded field_limit 0 (map (λ (e : Entry). length e.shown) es)) i 0) ≡ (get_or es i d).shown
  shown_at i h =
      let a = held (value_places p ns es) i in
      let b = held (map (λ (e : Entry). length e.shown) es) i in
      let n : get_or (map (λ (e : Entry). length e.shown) es) i 0 ≡ length (get_or es i d).shown = get_d_of i es h in
      rw (a, b, n) (places_shown s d ns es p i rows long h)
    where
      held : (xs : List ℕ) (i : ℕ) → get_or (padded field_limit 0 xs) i 0 ≡ get_or xs i 0
      held xs i = padded_at field_limit 0 xs i

      get_d_of : (i : ℕ) (es : List Entry) → i < length es → get_or (map (λ (e : Entry). length e.shown) es) i 0 ≡ length (get_or es i d).shown
      get_d_of i [] h = absurd (omega arith)
      get_d_of zero (e ∷ es) h = refl
      get_d_of (suc i) (e ∷ es) h = get_d_of i es (omega arith)

-- entries with the same texts are written alike
lines_shown : (d : Entry) (t : ℕ → List ℕ) (ns : List Name) (es : List Entry) (i : ℕ) → length ns ≡ length es
    → ((k : ℕ) → k < length es → t (i + k) ≡ (get_or es k d).shown)
    → lines (λ (e : Entry). e.shown) ns (map (λ f. showing (t f)) (from i (length ns))) ≡ lines (λ (e : Entry). e.shown) ns es
unfolding lines from
lines_shown d t [] es i l h = refl
lines_shown d t (n ∷ ns) [] i l h = absurd (omega arith)
lines_shown d t (n ∷ ns) (e ∷ es) i l h =
    let first : t i ≡ e.shown = (let z : i + 0 ≡ i = omega arith in rw z at (h 0 (omega arith))) in
    let more = lines_shown d t ns es (suc i) (omega arith) (λ k g. let z : i + suc k ≡ suc i + k = omega arith in rw z at (h (suc k) (omega arith))) in
    ap₂ (λ v r. line n v ++ r) first more

module _ (hd : Heads) (well : WellHeads hd) (sc se : List ℕ) (mc : M.Card) (mh : M.Happening) (card_taken : read_card hd sc ≡ taken mc)
    (event_taken : read_event hd se ≡ taken mh) where
  card_in : CardIn hd mc
  card_in = (card_holds hd sc mc card_taken).0

  module _ (d : Entry) (f : ℕ) (within : f < length hd.fields) where
    value_is : value_text se sc (as_happening hd mh) (as_card hd mc) f ≡ (get_or (put_in mh.puts mc.entries) f d).shown
    unfolding value_text as_happening as_card
    value_is =
        rw (padded_all field_limit (map (λ p. p.field) mh.puts) (length mh.puts) (sym (length-map mh.puts (λ p. p.field))))
        (go (carried_in f (map (λ p. p.field) mh.puts)) refl)
      where
        go : (x : Option ℕ) → carried_in f (map (λ p. p.field) mh.puts) ≡ x
            → shown_by se sc (as_happening hd mh) (as_card hd mc) f x ≡ (get_or (put_in mh.puts mc.entries) f d).shown
        go (Some i) q =
            let few : i < length mh.puts = omega (
              arith,
              (position-Some (λ x. eqb x f) (map (λ p. p.field) mh.puts) i 0 q).0,
              length-map mh.puts
                  (λ (p : Put). p.field),
            ) in
            shown_at se d (map (λ p. get_or hd.fields p.field []) mh.puts) (map (λ p. p.entry) mh.puts)
            (length (get_or (event_names hd.events) mh.event []) + 1) (event_at_lem hd well se mh event_taken)
            (length-map mh.puts (λ (p : Put). get_or hd.fields p.field []) ∙ sym (length-map mh.puts (λ (p : Put). p.entry)))
            i (omega (arith, length-map mh.puts (λ (p : Put). p.entry)))
            ∙ ap (λ (e : Entry). e.shown) (get_or-map (λ (p : Put). p.entry) mh.puts i (record { field = 0; entry = d })
            ∙ sym (put_found d (record { field = 0; entry = d }) f mh.puts mc.entries i (omega (arith, card_in.entries))
            (once hd well se mh event_taken) q))
        go None q =
            shown_at sc d hd.fields mc.entries (5 + length hd.model + 1) (card_at hd well sc mc card_taken) (sym card_in.entries) f
            (omega (arith, card_in.entries))
            ∙ ap (λ (e : Entry). e.shown) (sym (put_kept d f mh.puts mc.entries q))

  module _ (c : Card) (e : Happening) (c_is : c ≡ as_card hd mc) (e_is : e ≡ as_happening hd mh) where
    -- the text of a field is that of its entry after the event
    pub value_after : (d : Entry) (f : ℕ) → f < length hd.fields → value_text se sc e c f ≡ (get_or (put_in mh.puts mc.entries) f d).shown
    value_after d f h = rw (c_is, e_is) (value_is d f h)

    -- and the next card is that of the meaning
    pub next_after : (after : List Bool) → length after ≡ length (statuses hd)
        → next_text hd se sc e c (padded status_limit 0 (map mark_code after)) ≡ card_text hd (put_in mh.puts mc.entries) after
    unfolding next_text card_text side_of
    next_after after h =
        let es = put_in mh.puts mc.entries in
        let d : Entry = showing [] in
        let many : length hd.fields ≡ length es = sym (put_length mh.puts mc.entries ∙ card_in.entries) in
        let marks : map is_yes (take (length (statuses hd)) (padded status_limit 0 (map mark_code after))) ≡ after
        = ap (map is_yes) (padded_all status_limit (map mark_code after) (length (statuses hd)) (sym (length-map after mark_code ∙ h))) ∙ side_again after in
        let fields = lines_shown d (value_text se sc e c) hd.fields es 0 many
        (λ k g. let z : 0 + k ≡ k = omega arith in rw z (value_after d k (omega arith))) in
        let count : length (map (λ f. showing (value_text se sc e c f)) (from 0 (length hd.fields))) ≡ length es
        = length-map (from 0 (length hd.fields)) (λ f. showing (value_text se sc e c f)) ∙ from_length (length hd.fields) 0 ∙ many in
        rw (marks, fields, count)
