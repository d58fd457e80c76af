-- The tables of a sheet: what they hold, and with one row more.
use Prim.Native.Nat.{ℕ, ◌+◌, ◌-◌, ◌*◌, ◌≤◌, ◌<◌}
use mathlib.Core.Path.{◌≡◌, refl, sym}
use mathlib.Core.List.{List, [], ◌∷◌, ◌++◌, append_assoc, map-append}
use mathlib.Core.Logic.{inl, inr}
use native.Mathlib.Nat.{sub-zero}
use native.Mathlib.Omega.{arith}
use lib.ListN.{length, take, drop, length-append, length-map}
use Rattle.meaning.specs.Text.{joined}
use Rattle.meaning.specs.Limits.{field_limit, event_limit, status_limit}
use Rattle.meaning.specs.Name.{Name}
use Rattle.meaning.specs.Sheet as M
use Rattle.meaning.specs.Sheet.{Status, event_names, status_names, statuses, all_names}
use Rattle.theory.specs.Lists.Members.{few_below}
use Rattle.theory.specs.Papers.Formed.{Each, EventIn, WellHeads}
use Rattle.theory.specs.Lists.Padded.{padded_length}
use Rattle.limits.specs.Sizes.{name_room}
use Rattle.name.specs.declared.Name.{Name as Kept}
use Rattle.name.specs.Names.{kept, names_in, put_in}
use Rattle.name.proofs.Tables.{again_each, table_put, table_all, table_part}
use Rattle.sheet_tables.specs.declared.Heads.{Heads}
use Rattle.sheet_tables.specs.Heads.{as_heads}
use Rattle.sheet_tables.proofs.Tables.{all_good}
use Rattle.sheet_section.specs.Held.{carried_row, Plain}

-- tables, by what they hold
abbrev pub tabled : Kept → ℕ → ℕ → ℕ → ℕ → List ℕ → List ℕ → List ℕ → List ℕ → Heads
tabled m f e s x ns cd cs u = record { model = m; fields = f; events = e; stages = s; miles = x; names = ns; carried = cd; carries = cs; under = u }

-- how many rows and names there are
pub counted : (h : Heads) (hd : M.Heads) → h ≡ as_heads hd
    → (h.fields ≡ length hd.fields) × (h.events ≡ length hd.events) × (h.stages ≡ length hd.stages) × (h.miles ≡ length hd.miles)
    × (h.fields + h.events + (h.stages + h.miles) ≡ length (all_names hd))
unfolding as_heads all_names event_names status_names statuses
counted h hd is = rw is (refl, refl, refl, refl, sym (simp (length-append, length-map)))

abbrev pub Few : Heads → Type 0
Few h = (h.fields ≤ field_limit) × (h.events ≤ event_limit) × (h.stages + h.miles ≤ status_limit)

pub few_rows : (h : Heads) {hd : M.Heads} → h ≡ as_heads hd → Plain hd → Few h
few_rows h is p = let c = counted _ _ is in (omega (arith, p.few_fields), omega (arith, p.few_events), omega (arith, p.few_statuses))

-- a well formed sheet's
rows_carried : (m : ℕ) → m ≤ field_limit → (es : List M.Event) → Each (EventIn m) es → length (joined carried_row es) ≡ field_limit * length es
unfolding joined
rows_carried m few [] h = refl
rows_carried m few (e ∷ es) h =
    let one = padded_length field_limit 0 e.carries (omega (arith, few_below m e.carries (h e (inl refl)).once (h e (inl refl)).carries)) in
    omega (arith, length-append (carried_row e) (joined carried_row es), rows_carried m few es (λ x i. h x (inr i)))

pub plain_well : (hd : M.Heads) → WellHeads hd → Plain hd
unfolding statuses
plain_well hd w = record {
  names = again_each (all_names hd) (all_good hd w);
  carried = rows_carried (length hd.fields) w.fields_few hd.events w.events;
  few_fields = w.fields_few;
  few_events = w.events_few;
  few_statuses = omega (arith, w.statuses_few, length-append hd.stages hd.miles);
}

module _ (h : Heads) (hd : M.Heads) (is : h ≡ as_heads hd) where
  -- one more name
  pub names_stored : (more : M.Heads) (w : Name) → all_names more ≡ all_names hd ++ (w ∷ []) → length (all_names hd) < name_room
      → (n : ℕ) (v : Kept) → n ≡ length (all_names hd) → v ≡ kept w → put_in h.names n v ≡ (as_heads more).names
  unfolding as_heads
  names_stored more w e room n v y z = rw (is, y, z, e) (table_put (all_names hd) w room)

  module _ (plain : Plain hd) where
    -- the names that a new one must not be
    pub names_so_far : (n : ℕ) → n ≡ length (all_names hd) → take n (names_in h.names) ≡ all_names hd
    unfolding as_heads
    names_so_far n z = rw (is, z) (table_all (all_names hd) plain.names)

    -- a field
    pub fields_known : (n : ℕ) → n ≡ length hd.fields → take (n - 0) (drop 0 (names_in h.names)) ≡ hd.fields
    unfolding as_heads all_names
    fields_known n z =
        rw (is, sub-zero, z, append_assoc hd.fields)
        (table_part [] hd.fields (event_names hd.events ++ status_names (statuses hd)) (rw (append_assoc hd.fields) at plain.names))

    -- the stages
    pub stages_known : (from to : ℕ) → from ≡ length hd.fields + length hd.events → to ≡ from + length hd.stages
        → take (to - from) (drop from (names_in h.names)) ≡ status_names hd.stages
    unfolding as_heads all_names statuses status_names event_names
    stages_known from to y z =
        let used = hd.fields ++ event_names hd.events in
        let n : from ≡ length used = simp (length-append, length-map) y in
        let k : to - from ≡ length (status_names hd.stages) = omega (arith, length-map hd.stages (λ (x : Status). x.name)) in
        let e : all_names hd ≡ used ++ status_names hd.stages ++ status_names hd.miles = simp (map-append, append_assoc) in
        rw (is, k, n, e) (table_part used (status_names hd.stages) (status_names hd.miles) (rw e at plain.names))
