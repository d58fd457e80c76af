-- The tables of a well-formed sheet: they are sized, and they stand for that sheet.
use Prim.Native.Nat.{ℕ, zero, suc, ◌+◌, ◌*◌, ◌<◌, ◌≤◌}
use mathlib.Core.Path.{◌≡◌, refl, sym, ◌∙◌, subst}
use mathlib.Core.List.{List, [], ◌∷◌, ◌++◌, map, append_assoc}
use mathlib.Core.Option.{Option, none, some}
use mathlib.Core.Logic.{inl, inr, ⊎_elim}
use native.Mathlib.Nat.{add-zero}
use native.Mathlib.Omega.{arith}
use lib.ListN.{length, take, drop, get_or, replicate, length-append, length-map, get_or-append, get_or-map}
use lib.Seq.{take-append_seam, drop-append-add, get_or-append-add}
use Rattle.meaning.specs.Text.{In, joined, from}
use Rattle.meaning.specs.Sheet as M
use Rattle.meaning.specs.Sheet.{Event, Status, event_names, status_names, statuses, stage_over, all_names}
use Rattle.theory.specs.Lists.Members.{in_cases, map_in, at_place, few_below}
use Rattle.theory.specs.Papers.Names.{Good}
use Rattle.theory.specs.Papers.Formed.{Each, UnderIn, StatusIn, EventIn, WellHeads}
use Rattle.meaning.specs.Limits.{field_limit, event_limit, status_limit}
use Rattle.limits.specs.Sizes.{carried_room}
use Rattle.theory.specs.Lists.Padded.{padded_length, padded_at}
use Rattle.name.specs.declared.Name.{Name as Kept}
use Rattle.name.specs.Names.{kept, table_of}
use Rattle.name.proofs.Callers.{good_again}
use Rattle.name.proofs.Tables.{again_each, table_at, table_part}
use Rattle.sheet_tables.specs.declared.Heads.{Heads}
use Rattle.sheet_tables.specs.Heads.{padded, under_code, under_of, as_heads, blank, names_at, event_at, status_at, heads_of, Sized}

-- THE TABLES OF A REFUSED SHEET: no name for the model, and the table of no names
pub blank_heads : (w : Kept) (t : List ℕ) → w ≡ kept [] → t ≡ table_of []
    → record {
      model = w;
      fields = 0;
      events = 0;
      stages = 0;
      miles = 0;
      names = t;
      carried = replicate carried_room 0;
      carries = replicate event_limit 0;
      under = replicate status_limit 0;
    } ≡ blank
blank_heads w t e q = rw (e, q)

-- a bound for all members
mapped_at : {A : Type 0} (f : A → ℕ) (k : ℕ) (xs : List A) (i : ℕ) → ((x : A) → In x xs → f x ≤ k) → get_or (map f xs) i 0 ≤ k
mapped_at f k [] i h = omega arith
mapped_at f k (x ∷ xs) zero h = h x (inl refl)
mapped_at f k (x ∷ xs) (suc i) h = mapped_at f k xs i (λ y m. h y (inr m))

-- THE FIELDS THAT EVENTS CARRY
row_first : (c b : List ℕ) → take (length c) (padded field_limit 0 c ++ b) ≡ c
unfolding padded
row_first c b = rw (append_assoc c) (take-append_seam c _)

abbrev row : Event → List ℕ
row e = padded field_limit 0 e.carries

module _ (m : ℕ) (few : m ≤ field_limit) where
  carries_few : (e : Event) → EventIn m e → length e.carries ≤ field_limit
  carries_few e h = omega (arith, few_below m e.carries h.once h.carries)

  row_length : (e : Event) → EventIn m e → length (row e) ≡ field_limit
  row_length e h = padded_length field_limit 0 e.carries (carries_few e h)

  row_below : (e : Event) → EventIn m e → (i : ℕ) → i < length e.carries → get_or (row e) i 0 < m
  row_below e h i g = rw (padded_at field_limit 0 e.carries i) (h.carries (get_or e.carries i 0) (at_place e.carries i g))

  -- place by place
  cells_below : (es : List Event) → Each (EventIn m) es → (e i : ℕ) → i < get_or (map (λ (x : Event). length x.carries) es) e 0
      → get_or (joined row es) (field_limit * e + i) 0 < m
  unfolding joined
  cells_below [] h e i g = absurd (omega arith)
  cells_below (x ∷ es) h zero i g =
      let k : i < length (row x) = omega (arith, row_length x (h x (inl refl)), carries_few x (h x (inl refl))) in
      let z : field_limit * 0 + i ≡ i = omega arith in
      rw (z, get_or-append (row x) (joined row es) 0 i k) (row_below x (h x (inl refl)) i g)
  cells_below (x ∷ es) h (suc e) i g =
      let z : field_limit * suc e + i ≡ length (row x) + (field_limit * e + i) = omega (arith, row_length x (h x (inl refl))) in
      rw (z, get_or-append-add (row x) (joined row es) (field_limit * e + i) 0) (cells_below es (λ y k. h y (inr k)) e i g)

  -- and row by row
  cells_row : (es : List Event) → Each (EventIn m) es → (e : ℕ) (d : Event) → e < length es → (b : List ℕ)
      → take (length (get_or es e d).carries) (drop (field_limit * e) (joined row es ++ b)) ≡ (get_or es e d).carries
  unfolding joined
  cells_row [] h e d g b = absurd (omega arith)
  cells_row (x ∷ es) h zero d g b = rw (append_assoc (row x) (joined row es) b) (row_first x.carries (joined row es ++ b))
  cells_row (x ∷ es) h (suc e) d g b =
      let z : field_limit * suc e ≡ length (row x) + field_limit * e = omega (arith, row_length x (h x (inl refl))) in
      rw (z, append_assoc (row x) (joined row es) b, drop-append-add (row x) (joined row es ++ b) (field_limit * e))
      (cells_row es (λ y k. h y (inr k)) e d (omega arith) b)

-- THE TABLES ARE SIZED
code_few : (k : ℕ) (u : Option ℕ) → UnderIn k u → under_code u ≤ k
code_few k none h = omega arith
code_few k (some p) h = omega arith

statuses_in : (hd : M.Heads) → WellHeads hd → Each (StatusIn (length hd.stages)) (statuses hd)
unfolding statuses
statuses_in hd w x m = ⊎_elim (w.stages x) (w.miles x) (in_cases x hd.stages hd.miles m)

pub sized : (hd : M.Heads) → WellHeads hd → Sized (as_heads hd)
unfolding as_heads statuses
sized hd w =
    let f = length hd.fields in
    let many : Event → ℕ = λ (e : Event). length e.carries in
    let code : Status → ℕ = λ (s : Status). under_code s.under in
    record {
      few_fields = w.fields_few;
      few_events = w.events_few;
      few_statuses = omega (arith, w.statuses_few, length-append hd.stages hd.miles);
      few_carried =
          λ e. rw (padded_at event_limit 0 (map many hd.events) e)
          (mapped_at many field_limit hd.events e (λ x m. carries_few f w.fields_few x (w.events x m)));
      fields_carried = λ e i h.
          rw (padded_at carried_room 0 (joined row hd.events) (field_limit * e + i))
          (cells_below f w.fields_few hd.events w.events e i (rw (padded_at event_limit 0 (map many hd.events) e) at h));
      under_stage =
          λ x. rw (padded_at status_limit 0 (map code (statuses hd)) x)
          (mapped_at code (length hd.stages) (statuses hd) x (λ s m. code_few (length hd.stages) s.under (statuses_in hd w s m).under));
    }

-- AND STAND FOR THE SHEET

-- a list told place by place
from_at : {A : Type 0} (g : ℕ → A) (d : A) (xs : List A) (k : ℕ) → ((i : ℕ) → i < length xs → g (k + i) ≡ get_or xs i d) → map g (from k (length xs)) ≡ xs
unfolding from
from_at g d [] k h = refl
from_at g d (x ∷ xs) k h =
    let e : g k ≡ x = rw (← add-zero k) (h 0 (omega arith)) in
    rw (e, from_at g d xs (suc k) (λ i j. let z : suc k + i ≡ k + suc i = omega arith in rw z (h (suc i) (omega arith))))

code_back : (u : Option ℕ) → under_of (under_code u) ≡ u
code_back none = refl
code_back (some p) = refl

abbrev no_event : Event
no_event = record { name = []; carries = [] }

abbrev no_status : Status
no_status = record { name = []; under = none }

module _ (hd : M.Heads) (w : WellHeads hd) where
  pub all_good : Each Good (all_names hd)
  unfolding all_names event_names status_names
  all_good n m =
      ⊎_elim
      (λ i. ⊎_elim (w.fields n) (λ j. let (e, k, z) = map_in (λ (x : Event). x.name) n hd.events j in subst Good (sym z) (w.events e k).name)
      (in_cases n hd.fields (event_names hd.events) i))
      (λ i. let (x, k, z) = map_in (λ (x : Status). x.name) n (statuses hd) i in subst Good (sym z) (statuses_in hd w x k).name)
      (in_cases n (hd.fields ++ event_names hd.events) (status_names (statuses hd)) m)

  abbrev tables : Heads
  tables = as_heads hd

  event_name : (e : ℕ) → e < length hd.events → get_or (all_names hd) (length hd.fields + e) [] ≡ (get_or hd.events e no_event).name
  unfolding all_names event_names
  event_name e h =
      let k : length hd.fields + e < length (hd.fields ++ event_names hd.events) = simp (length-append, length-map) (omega arith) in
      rw (
        get_or-append (hd.fields ++ event_names hd.events) (status_names (statuses hd)) [] (length hd.fields + e) k,
        get_or-append-add hd.fields
            (event_names hd.events) e [],
      )
      (get_or-map (λ (x : Event). x.name) hd.events e no_event)

  status_name_lem : (x : ℕ) → get_or (all_names hd) (length hd.fields + length hd.events + x) [] ≡ (get_or (statuses hd) x no_status).name
  unfolding all_names status_names event_names
  status_name_lem x =
      let k : length hd.fields + length hd.events + x ≡ length (hd.fields ++ event_names hd.events) + x = simp (length-append, length-map) in
      rw (k, get_or-append-add (hd.fields ++ event_names hd.events) (status_names (statuses hd)) x [])
      (get_or-map (λ (x : Status). x.name) (statuses hd) x no_status)

  carried_is : (e : ℕ) → e < length hd.events
      → take (length (get_or hd.events e no_event).carries) (drop (field_limit * e) tables.carried) ≡ (get_or hd.events e no_event).carries
  unfolding as_heads padded
  carried_is e h = cells_row (length hd.fields) w.fields_few hd.events w.events e no_event h _

  event_is : (e : ℕ) → e < length hd.events → event_at tables e ≡ get_or hd.events e no_event
  unfolding as_heads
  event_is e h =
      let many : Event → ℕ = λ (x : Event). length x.carries in
      let n = table_at (all_names hd) (again_each (all_names hd) all_good) (length hd.fields + e) ∙ event_name e h in
      let c : get_or tables.carries e 0 ≡ length (get_or hd.events e no_event).carries = padded_at event_limit 0 (map many hd.events) e
      ∙ get_or-map many hd.events e no_event in
      rw (n, c, carried_is e h)

  status_is : (x : ℕ) → x < length (statuses hd) → status_at tables x ≡ get_or (statuses hd) x no_status
  unfolding as_heads
  status_is x h =
      let code : Status → ℕ = λ (s : Status). under_code s.under in
      let n = table_at (all_names hd) (again_each (all_names hd) all_good) (length hd.fields + length hd.events + x) ∙ status_name_lem x in
      let u : get_or tables.under x 0 ≡ under_code (get_or (statuses hd) x no_status).under = padded_at status_limit 0 (map code (statuses hd)) x
      ∙ get_or-map code (statuses hd) x no_status in
      rw (n, u, code_back (get_or (statuses hd) x no_status).under)

  fields_again : names_at tables 0 (length hd.fields) ≡ hd.fields
  unfolding names_at as_heads all_names
  fields_again =
      rw (append_assoc hd.fields) (table_part [] hd.fields (event_names hd.events ++ status_names (statuses hd))
      (rw (append_assoc hd.fields) at (again_each (all_names hd) all_good)))

  events_again : map (event_at tables) (from 0 (length hd.events)) ≡ hd.events
  events_again = from_at (event_at tables) no_event hd.events 0 (λ i h. let z : 0 + i ≡ i = omega arith in rw z (event_is i h))

  stages_again : map (status_at tables) (from 0 (length hd.stages)) ≡ hd.stages
  unfolding statuses
  stages_again =
      from_at (status_at tables) no_status hd.stages 0
      (λ i h. let z : 0 + i ≡ i = omega arith in rw z (status_is i (omega (arith, length-append hd.stages hd.miles)) ∙ get_or-append hd.stages
      hd.miles no_status i h))

  miles_again : map (status_at tables) (from (length hd.stages) (length hd.miles)) ≡ hd.miles
  unfolding statuses
  miles_again =
      from_at (status_at tables) no_status hd.miles (length hd.stages)
      (λ i h. status_is (length hd.stages + i) (omega (arith, length-append hd.stages hd.miles)) ∙ get_or-append-add hd.stages hd.miles i no_status)

  pub heads_again : heads_of (as_heads hd) ≡ hd
  unfolding heads_of as_heads
  heads_again = rw (good_again hd.model w.model, fields_again, events_again, stages_again, miles_again)

-- the stage over a status, in its table
pub under_over : (hd : M.Heads) (x : ℕ) → get_or (padded status_limit 0 (map (λ s. under_code s.under) (statuses hd))) x 0 ≡ under_code (stage_over hd x)
unfolding stage_over
under_over hd x =
    padded_at status_limit 0 (map (λ s. under_code s.under) (statuses hd)) x ∙ get_or-map (λ (s : Status). under_code s.under) (statuses hd) x
    (record { name = []; under = none })
