-- The names of the sheet for which tables stand.
use Prim.Native.Nat.{ℕ, zero, suc, ◌+◌, ◌≤◌, ◌<◌}
use mathlib.Core.Path.{◌≡◌, refl, ◌∙◌}
use mathlib.Core.List.{List, [], ◌∷◌, ◌++◌, map, map-append}
use native.Mathlib.Omega.{arith}
use native.Mathlib.Nat.{add-zero, zero-add}
use native.Mathlib.Numerals.{add-one}
use lib.ListN.{length, take, drop, get_or, length-map}
use lib.Seq.{drop-cons, get_or-take, length-take-le}
use Rattle.meaning.specs.Text.{from}
use Rattle.meaning.specs.Name.{Name}
use Rattle.meaning.specs.Sheet.{Status, statuses, status_names}
use Rattle.theory.specs.Lists.Members.{from_length, from_both}
use Rattle.limits.specs.Sizes.{name_room}
use Rattle.name.specs.Names.{name_of, names_in, table_words}
use Rattle.name.proofs.Tables.{table_length}
use Rattle.sheet_tables.specs.declared.Heads.{Heads}
use Rattle.sheet_tables.specs.Heads.{Sized, names_at, status_at, heads_of}

-- the first names, from place i on
pub names_cons : (ns : List Name) (count i : ℕ) → i < count → count ≤ length ns → drop i (take count ns) ≡ get_or ns i [] ∷ drop (i + 1) (take count ns)
names_cons ns count i h g =
    let z : i < length (take count ns) = omega (arith, length-take-le count ns g) in
    rw (add-one, drop-cons (take count ns) i [] z, get_or-take count ns i [] h)

pub model_is : (h : Heads) → (heads_of h).model ≡ name_of h.model
unfolding heads_of
model_is h = refl

pub fields_are : (h : Heads) → (heads_of h).fields ≡ take h.fields (names_in h.names)
unfolding heads_of names_at
fields_are h = refl

-- the names at the places from a + b on
pub names_from : {A : Type 0} (ns : List Name) (a : ℕ) (f : ℕ → A) (g : A → Name) → ((x : ℕ) → g (f x) ≡ get_or ns (a + x) []) → (n b : ℕ)
    → a + b + n ≤ length ns
    → map g (map f (from b n)) ≡ take n (drop (a + b) ns)
unfolding from
names_from ns a f g h zero b w = refl
names_from ns a f g h (suc n) b w =
    let z : a + suc b ≡ suc (a + b) = omega arith in
    let ih : map g (map f (from (suc b) n)) ≡ take n (drop (suc (a + b)) ns) = rw z at (names_from ns a f g h n (suc b) (omega arith)) in
    rw (drop-cons ns (a + b) [] (omega arith), h b, ih)

pub statuses_are : (h : Heads) → h.fields + h.events + (h.stages + h.miles) ≤ length (names_in h.names)
    → status_names (statuses (heads_of h)) ≡ take (h.stages + h.miles) (drop (h.fields + h.events) (names_in h.names))
unfolding heads_of statuses status_names
statuses_are h w =
    let both : from 0 (h.stages + h.miles) ≡ from 0 h.stages ++ from h.stages h.miles = rw zero-add at (from_both 0 h.stages h.miles) in
    rw (← map-append (status_at h) (from 0 h.stages), ← both)
    (rw add-zero at (names_from (names_in h.names) (h.fields + h.events) (status_at h) (λ (s : Status). s.name) (λ x. refl) (h.stages + h.miles) 0
    (omega arith)))

pub stages_length : (h : Heads) → length (heads_of h).stages ≡ h.stages
unfolding heads_of
stages_length h = length-map (from 0 h.stages) (status_at h) ∙ from_length h.stages 0

-- the table of names holds them all
module _ (h : Heads) (sized : Sized h) (long : length h.names ≡ table_words) where
  names_held : length (names_in h.names) ≡ name_room
  names_held = table_length h.names long

  pub fields_held : h.fields ≤ length (names_in h.names)
  fields_held = omega (arith, names_held, sized.few_fields)

  pub statuses_held : h.fields + h.events + (h.stages + h.miles) ≤ length (names_in h.names)
  statuses_held = omega (arith, names_held, sized.few_fields, sized.few_events, sized.few_statuses)
