-- Rows of a text, each a name, `=`, a value's text and one byte: those of a card and of an event line that were taken.
use Rattle.std.specs.Prelude.{ℕ, zero, suc, ◌+◌, ◌≡◌, refl, drop}
use Rattle.std.proofs.Math.Path.{sym, ap, subst}
use Rattle.std.proofs.Common.{◌∙◌, inl, inr, arith, drop_at, drop-drop}
use mathlib.Core.List.{List, [], ◌∷◌, ◌++◌, map, append_assoc}
use Rattle.std.proofs.Math.ListN.{length, get_or, length-append}
use Rattle.meaning.specs.Text.{text, joined}
use Rattle.meaning.specs.Refusal.{taken}
use Rattle.meaning.specs.Name.{Name}
use Rattle.meaning.specs.Number.{Entry, decimal}
use Rattle.meaning.specs.Sheet.{Heads, Event, statuses, status_names, event_names}
use Rattle.meaning.specs.Card as M
use Rattle.meaning.specs.Card.{Put, read_card, read_event, carried_by}
use Rattle.meaning.specs.Write.{line, lines, mark, card_text}
use Rattle.theory.specs.Lists.Members.{Once}
use Rattle.theory.specs.Papers.Formed.{Each, EventIn, WellHeads}
use Rattle.theory.specs.Papers.Case.{event_holds}
use Rattle.theory.specs.Writing.ReadBack.{line_length_lem}
use Rattle.theory.specs.Writing.CardText.{read_card_text}
use Rattle.theory.specs.Writing.EventText.{put_text, event_text, happening_text}

-- the text begins with a row for each name and entry
abbrev pub Rows : List ℕ → List Name → List Entry → Type 0
Rows t [] es = Unit {0}
Rows t (n ∷ ns) [] = Unit {0}
Rows t (n ∷ ns) (e ∷ es) = (b : ℕ) × (u : List ℕ) × (t ≡ n ++ text "=" ++ e.shown ++ (b ∷ u)) × Rows u ns es

module _ (s : List ℕ) where
  -- behind a name and its `=`, and behind the whole row
  pub row_value : (p : ℕ) (n v : List ℕ) (b : ℕ) (u : List ℕ) → drop p s ≡ n ++ text "=" ++ v ++ (b ∷ u) → drop (p + length n + 1) s ≡ v ++ (b ∷ u)
  row_value p n v b u e =
      let z : p + length n + 1 ≡ p + length (n ++ text "=") = omega (arith, length-append n (text "=")) in
      rw (z, ← drop-drop (length (n ++ text "=")) p s, e, append_assoc (n ++ text "=") v (b ∷ u))
      (drop_at (n ++ text "=") (v ++ (b ∷ u)) (length (n ++ text "=")) refl)

  pub row_next : (p : ℕ) (n v : List ℕ) (b : ℕ) (u : List ℕ) → drop p s ≡ n ++ text "=" ++ v ++ (b ∷ u) → drop (p + length n + 1 + length v + 1) s ≡ u
  row_next p n v b u e =
      let z : p + length n + 1 + length v + 1 ≡ p + length n + 1 + length (v ++ (b ∷ [])) = omega (arith, length-append v (b ∷ [])) in
      rw (z, ← drop-drop (length (v ++ (b ∷ []))) (p + length n + 1) s, row_value p n v b u e, ← append_assoc v (b ∷ []) u)
      (drop_at (v ++ (b ∷ [])) u (length (v ++ (b ∷ []))) refl)

-- the rows of a card
card_rows : (ns : List Name) (es : List Entry) (rest : List ℕ) → Rows (lines (λ (e : Entry). e.shown) ns es ++ rest) ns es
unfolding lines line
card_rows [] es rest = tt
card_rows (n ∷ ns) [] rest = tt
card_rows (n ∷ ns) (e ∷ es) rest =
    let more = lines (λ (e : Entry). e.shown) ns es in (
      10,
      more ++ rest,
      append_assoc (n ++ text "=" ++ e.shown ++ text "\n") more rest ∙ append_assoc (n ++ text "=" ++ e.shown) (text "\n") (more ++ rest),
      card_rows ns es rest,
    )

-- the rows of an event line, behind one byte
event_rows : (hd : Heads) (ps : List Put)
    → (b : ℕ) × (u : List ℕ) × (joined (put_text hd) ps ++ text "\n" ≡ b ∷ u) × Rows u (map (λ p. get_or hd.fields p.field []) ps) (map (λ p. p.entry) ps)
unfolding joined put_text
event_rows hd [] = (10, [], refl, tt)
event_rows hd (p ∷ ps) =
    let (b, u, q, r) = event_rows hd ps in
    let row = get_or hd.fields p.field [] ++ text "=" ++ p.entry.shown in
    (32, row ++ (b ∷ u), ap (λ t. 32 ∷ t) (append_assoc row (joined (put_text hd) ps) (text "\n") ∙ ap (λ t. row ++ t) q), (b, u, refl, r))

-- an event carries a field once
carries_once : (m : ℕ) (es : List Event) → Each (EventIn m) es → (i : ℕ) → Once (get_or es i (record { name = []; carries = [] })).carries
carries_once m [] h i = tt
carries_once m (e ∷ es) h zero = (h e (inl refl)).once
carries_once m (e ∷ es) h (suc i) = carries_once m es (λ x j. h x (inr j)) i

-- PAPERS THAT WERE TAKEN

module _ (hd : Heads) (well : WellHeads hd) where
  module _ (sc : List ℕ) (mc : M.Card) (card_taken : read_card hd sc ≡ taken mc) where
    -- the rows of the card, behind its first line
    pub card_at : Rows (drop (5 + length hd.model + 1) sc) hd.fields mc.entries
    unfolding card_text
    card_at =
        let first = line (text "case") hd.model in
        let fields = lines (λ (e : Entry). e.shown) hd.fields mc.entries in
        let marks = lines mark (status_names (statuses hd)) mc.statuses in
        let end = line (text "end") (decimal (length mc.entries + length mc.statuses)) in
        let whole : sc ≡ first ++ (fields ++ (marks ++ end)) = read_card_text hd well sc mc card_taken ∙ append_assoc (first ++ fields) marks end ∙ append_assoc
        first fields (marks ++ end) in
        let long : length first ≡ 5 + length hd.model + 1 = omega (arith, line_length_lem (text "case") hd.model) in
        subst (λ t. Rows t hd.fields mc.entries) (sym (rw whole (drop_at first (fields ++ (marks ++ end)) (5 + length hd.model + 1) long)))
        (card_rows hd.fields mc.entries (marks ++ end))

  module _ (se : List ℕ) (mh : M.Happening) (event_taken : read_event hd se ≡ taken mh) where
    -- the rows of the event line, behind the event's name and a space
    pub event_at_lem : Rows (drop (length (get_or (event_names hd.events) mh.event []) + 1) se)
        (map (λ p. get_or hd.fields p.field []) mh.puts) (map (λ p. p.entry) mh.puts)
    unfolding event_text
    event_at_lem =
        let name = get_or (event_names hd.events) mh.event [] in
        let (b, u, q, r) = event_rows hd mh.puts in
        let whole : se ≡ name ++ (b ∷ []) ++ u = happening_text hd se mh event_taken ∙ append_assoc name (joined (put_text hd) mh.puts) (text "\n") ∙ ap
        (λ t. name ++ t) q ∙ sym (append_assoc name (b ∷ []) u) in
        let long : length (name ++ (b ∷ [])) ≡ length name + 1 = length-append name (b ∷ []) in
        subst (λ t. Rows t (map (λ p. get_or hd.fields p.field []) mh.puts) (map (λ p. p.entry) mh.puts))
        (sym (rw whole (drop_at (name ++ (b ∷ [])) u (length name + 1) long))) r

    pub once : Once (map (λ p. p.field) mh.puts)
    unfolding carried_by
    once = rw (event_holds hd se well mh event_taken).carried (carries_once (length hd.fields) hd.events well.events mh.event)
