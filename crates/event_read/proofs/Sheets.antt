-- The events of the sheet for which tables stand, and what they carry.
use Prim.Native.Nat.{ℕ, ◌+◌, ◌*◌, ◌≤◌, ◌<◌}
use mathlib.Core.Path.{◌≡◌, refl, ◌∙◌, ap}
use mathlib.Core.List.{[], ◌∷◌, map}
use native.Mathlib.Omega.{arith}
use native.Mathlib.Nat.{add-zero, zero-add}
use native.Mathlib.Numerals.{add-one}
use lib.ListN.{length, take, drop, get_or, length-drop, length-map}
use lib.Seq.{drop-cons, get_or-take, get_or-drop, length-take-le}
use Rattle.meaning.specs.Text.{from}
use Rattle.meaning.specs.Limits.{field_limit}
use Rattle.meaning.specs.Sheet.{Event, event_names}
use Rattle.meaning.specs.Card.{carried_by}
use Rattle.theory.specs.Lists.Members.{from_get, from_length}
use Rattle.limits.specs.Sizes.{carried_room}
use Rattle.name.specs.Names.{names_in}
use Rattle.sheet_tables.specs.declared.Heads.{Heads}
use Rattle.sheet_tables.specs.Heads.{Sized, event_at, heads_of}
use Rattle.sheet_tables.proofs.Names.{fields_are, names_from}

pub events_are : (h : Heads) → h.fields + h.events ≤ length (names_in h.names)
    → event_names (heads_of h).events ≡ take h.events (drop h.fields (names_in h.names))
unfolding heads_of event_names
events_are h w = rw add-zero at (names_from (names_in h.names) h.fields (event_at h) (λ (e : Event). e.name) (λ x. refl) h.events 0 (omega arith))

pub events_length : (h : Heads) → length (event_names (heads_of h).events) ≡ h.events
unfolding heads_of event_names
events_length h =
    length-map (map (event_at h) (from 0 h.events)) (λ (e : Event). e.name) ∙ length-map (from 0 h.events) (event_at h) ∙ from_length h.events 0

-- what the event at a place carries
module _ (h : Heads) (sized : Sized h) (e : ℕ) (one : e < h.events) where
  carried_are : carried_by (heads_of h) e ≡ take (get_or h.carries e 0) (drop (field_limit * e) h.carried)
  unfolding carried_by heads_of
  carried_are = ap (λ (x : Event). x.carries) (from_get (event_at h) (record { name = []; carries = [] }) h.events 0 e one) ∙ rw zero-add

  pub carried_length : length h.carried ≡ carried_room → length (carried_by (heads_of h) e) ≡ get_or h.carries e 0
  carried_length w =
      rw carried_are (length-take-le _ (drop (field_limit * e) h.carried)
      (omega (arith, length-drop (field_limit * e) h.carried, sized.few_carried e, sized.few_events)))

  module _ (i : ℕ) (more : i < get_or h.carries e 0) where
    pub carried_room_lem : field_limit * e + i < carried_room
    carried_room_lem = omega (arith, sized.few_carried e, sized.few_events)

    pub carried_cons : length h.carried ≡ carried_room
        → drop i (carried_by (heads_of h) e) ≡ get_or h.carried (field_limit * e + i) 0 ∷ drop (i + 1) (carried_by (heads_of h) e)
    carried_cons w =
        let z : i < length (carried_by (heads_of h) e) = omega (arith, carried_length w) in
        let y : get_or (carried_by (heads_of h) e) i 0 ≡ get_or h.carried (field_limit * e + i) 0
        = rw (carried_are, get_or-take (get_or h.carries e 0) (drop (field_limit * e) h.carried) i 0 more, get_or-drop (field_limit * e) h.carried i 0) in
        drop-cons (carried_by (heads_of h) e) i 0 z ∙ rw (y, add-one)

-- the name of a field
pub field_at : (h : Heads) (f : ℕ) → f < h.fields → get_or (heads_of h).fields f [] ≡ get_or (names_in h.names) f []
field_at h f l = rw (fields_are h, get_or-take h.fields (names_in h.names) f [] l)
