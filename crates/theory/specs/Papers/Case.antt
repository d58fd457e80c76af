-- What a taken case is: a well formed sheet with its testing order, a sheltered card of that sheet, and an event line of it.
use Rattle.std.specs.Prelude.{ℕ, ◌≤◌, ◌≡◌, refl, List, length}
use Rattle.std.proofs.Common.{◌∙◌, ap, subst, leb-true}
use Rattle.std.proofs.Math.Option.{Option, none, some}
use Rattle.meaning.specs.Refusal.{Answer, taken, refused, on_taken, CYCLE, ORPHAN}
use Rattle.meaning.specs.Limits.{sheet_bytes, card_bytes, event_bytes}
use Rattle.meaning.specs.Reading.{paper}
use Rattle.meaning.specs.Sheet.{Heads, Sheet, statuses}
use Rattle.meaning.specs.ReadSheet.{sheet}
use Rattle.meaning.specs.Card.{Card, card, mark_line, orphan, sheltered, read_card, happening, read_event}
use Rattle.meaning.specs.Graph.{TestingOrder}
use Rattle.meaning.specs.Tests.{nodes, tests}
use Rattle.meaning.specs.Dependency.{predecessors, testing_order}
use Rattle.meaning.specs.Doors.{Accepted, accepted, read_sheet, Told, read_told, Case, read_case}
use Rattle.theory.specs.Reading.Readers.{Holds, refused_taken, taken_same, taken_holds, paper_read, paper_holds, on_holds}
use Rattle.theory.specs.Graphs.Orders.{testing}
use Rattle.theory.specs.Papers.Formed.{Each, WellHeads, Well}
use Rattle.theory.specs.Papers.Entries.{Proper}
use Rattle.theory.specs.Papers.Sheets.{sheet_well}
use Rattle.theory.specs.Papers.Cards.{CardIn, card_marked, HappeningIn, happening_in}

-- what holds of a case that was taken
pub record Papers (k : Case) : Type 0 where
  pub well : Well k.sheet
  pub order : TestingOrder (nodes k.sheet.heads) (predecessors (tests k.sheet)) k.order
  -- of the card: an entry for each field, each as it is read, and a mark for each status
  pub entries : length k.card.entries ≡ length k.sheet.heads.fields
  pub proper : Each Proper k.card.entries
  pub marked : length k.card.statuses ≡ length (statuses k.sheet.heads)
  pub sheltered : orphan k.card.statuses 0 k.sheet.heads.stages ≡ none
  pub happening : HappeningIn k.sheet.heads k.happening

-- a card that is taken has no orphan
pub card_holds : (hd : Heads) (s : List ℕ) → Holds (read_card hd s) (λ c. CardIn hd c × (orphan c.statuses 0 hd.stages ≡ none))
unfolding read_card
card_holds hd s = on_holds (CardIn hd) P (paper 2 card_bytes (card hd) s) _
    (paper_holds (CardIn hd) 2 card_bytes (card hd) s (card_marked hd)) (λ c h. go c h (orphan c.statuses 0 hd.stages) refl)
  where
    P : Card → Type 0
    P c = CardIn hd c × (orphan c.statuses 0 hd.stages ≡ none)

    go : (c : Card) → CardIn hd c → (x : Option ℕ) → orphan c.statuses 0 hd.stages ≡ x → Holds (sheltered hd c x) P
    go c h none q = taken_holds P c (h, q)
    go c h (some x) q = λ a e. absurd (refused_taken ORPHAN 2 (mark_line (length hd.fields) x) a e)

-- an event line that is taken
pub event_holds : (hd : Heads) (s : List ℕ) → WellHeads hd → Holds (read_event hd s) (HappeningIn hd)
unfolding read_event
event_holds hd s w = paper_holds (HappeningIn hd) 3 event_bytes (happening hd) s (happening_in hd w)

-- a well formed sheet with a testing order
abbrev Sheeted : Accepted → Type 0
Sheeted a = Well a.sheet × TestingOrder (nodes a.sheet.heads) (predecessors (tests a.sheet)) a.order

-- a sheet that is taken
pub sheet_holds : (s : List ℕ)
    → Holds (read_sheet s) (λ a. Well a.sheet × TestingOrder (nodes a.sheet.heads) (predecessors (tests a.sheet)) a.order)
unfolding read_sheet testing_order
sheet_holds s = on_holds Well Sheeted (paper 1 sheet_bytes sheet s) _
    (paper_holds Well 1 sheet_bytes sheet s sheet_well) (λ sh w. go sh w (testing_order sh) refl)
  where
    go : (sh : Sheet) → Well sh → (o : Option (List ℕ)) → testing_order sh ≡ o → Holds (accepted sh o) Sheeted
    go sh w none q = λ a e. absurd (refused_taken CYCLE 1 0 a e)
    go sh w (some o) q = taken_holds Sheeted (record { sheet = sh; order = o }) (w, testing (nodes sh.heads) (predecessors (tests sh)) o q)

-- what holds of a card and an event line that were taken under what stands above the rules
pub record ToldIn (hd : Heads) (t : Told) : Type 0 where
  pub card : CardIn hd t.card
  pub sheltered : orphan t.card.statuses 0 hd.stages ≡ none
  pub happening : HappeningIn hd t.happening

-- a card and an event line that are taken
pub told_holds : (hd : Heads) (c e : List ℕ) → WellHeads hd → Holds (read_told hd c e) (ToldIn hd)
unfolding read_told
told_holds hd c e w =
    on_holds (λ k. CardIn hd k × (orphan k.statuses 0 hd.stages ≡ none)) (ToldIn hd) (read_card hd c) _ (card_holds hd c) (λ k (h, g).
    on_holds (HappeningIn hd) (ToldIn hd) (read_event hd e) _ (event_holds hd e w) (λ v u.
    taken_holds (ToldIn hd) (record { card = k; happening = v }) (record { card = h; sheltered = g; happening = u })))

-- three papers that are taken
pub case_holds : (s c e : List ℕ) → Holds (read_case s c e) Papers
unfolding read_case
case_holds s c e =
    on_holds Sheeted Papers (read_sheet s) _ (sheet_holds s) (λ a (w, o).
    on_holds (ToldIn a.sheet.heads) Papers (read_told a.sheet.heads c e) _ (told_holds a.sheet.heads c e w.heads) (λ t h.
    taken_holds Papers (record { sheet = a.sheet; order = a.order; card = t.card; happening = t.happening }) (record {
      well = w;
      order = o;
      entries = h.card.entries;
      proper = h.card.proper;
      marked = h.card.marked;
      sheltered = h.sheltered;
      happening = h.happening;
    })))

-- THE PAPERS OF A CASE, each by itself

-- the case of an accepted sheet and what card and event line tell
abbrev pub case_of : Accepted → Told → Case
case_of a t = record { sheet = a.sheet; order = a.order; card = t.card; happening = t.happening }

-- what was asked next was taken, and so was what came before
pub on_taken_lem : {A B : Type 0} (x : Answer A) (f : A → Answer B) (b : B) → on_taken x f ≡ taken b → (a : A) × (x ≡ taken a) × (f a ≡ taken b)
on_taken_lem (taken a) f b e = (a, refl, e)
on_taken_lem (refused n p l) f b e = absurd (refused_taken n p l b e)

-- the three papers, each taken
pub record Apart (s c e : List ℕ) (k : Case) : Type 0 where
  pub sheet : read_sheet s ≡ taken (record { sheet = k.sheet; order = k.order })
  pub card : read_card k.sheet.heads c ≡ taken k.card
  pub event : read_event k.sheet.heads e ≡ taken k.happening

pub case_apart : (s c e : List ℕ) (k : Case) → read_case s c e ≡ taken k → Apart s c e k
unfolding read_case read_told
case_apart s c e k q =
    let (a, s-is, q1) = on_taken_lem (read_sheet s) _ k q in
    let (t, t_is, q2) = on_taken_lem (read_told a.sheet.heads c e) _ k q1 in
    let (m, c_is, q3) = on_taken_lem (read_card a.sheet.heads c) _ t t_is in
    let (h, e_is, q4) = on_taken_lem (read_event a.sheet.heads e) _ t q3 in
    let same : record { card = m; happening = h } ≡ t = taken_same _ t q4 in
    let is : case_of a t ≡ k = taken_same _ k q2 in
    subst (Apart s c e) (ap (case_of a) same ∙ is) (record { sheet = s-is; card = c_is; event = e_is })

-- the card and the event line are not long
pub case_short : (s c e : List ℕ) (k : Case) → read_case s c e ≡ taken k → (length c ≤ card_bytes) × (length e ≤ event_bytes)
unfolding read_card read_event
case_short s c e k q =
    let p = case_apart s c e k q in
    let (a, c_is, r) = on_taken_lem (paper 2 card_bytes (card k.sheet.heads) c) _ k.card p.card in (
      leb-true (length c) card_bytes (paper_read 2 card_bytes (card k.sheet.heads) c a c_is).0,
      leb-true (length e) event_bytes
          (paper_read 3 event_bytes (happening k.sheet.heads) e k.happening p.event).0,
    )
