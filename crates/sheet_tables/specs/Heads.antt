-- The tables of a sheet above its rules: those that a sheet has, and what any tables stand for.
use Rattle.std.specs.Prelude.{ℕ, zero, suc, ◌+◌, ◌*◌, ◌≤◌, ◌<◌, List, [], map, length, take, drop, get_or, replicate}
use Rattle.std.proofs.Math.Option.{Option, none, some}
use Rattle.meaning.specs.Text.{joined, from}
use Rattle.meaning.specs.Name.{Name}
use Rattle.meaning.specs.Sheet as M
use Rattle.meaning.specs.Sheet.{Event, Status, statuses, all_names}
use Rattle.meaning.specs.Limits.{field_limit, event_limit, status_limit}
use Rattle.limits.specs.Sizes.{carried_room}
unfoldable pub use Rattle.theory.specs.Lists.Padded.{padded}
use Rattle.name.specs.Names.{kept, name_of, names_in, table_of}
use Rattle.sheet_tables.specs.declared.Heads.{Heads}

-- a parent or home in one number
abbrev pub under_code : Option ℕ → ℕ
under_code none = 0
under_code (some p) = suc p

-- the tables of a sheet
unfoldable pub as_heads : M.Heads → Heads
as_heads hd = record {
  model = kept hd.model;
  fields = length hd.fields;
  events = length hd.events;
  stages = length hd.stages;
  miles = length hd.miles;
  names = table_of (all_names hd);
  carried = padded carried_room 0 (joined (λ e. padded field_limit 0 e.carries) hd.events);
  carries = padded event_limit 0 (map (λ e. length e.carries) hd.events);
  under = padded status_limit 0 (map (λ s. under_code s.under) (statuses hd));
}

-- the tables of a refused sheet
abbrev pub blank : Heads
blank = record {
  model = kept [];
  fields = 0;
  events = 0;
  stages = 0;
  miles = 0;
  names = table_of [];
  carried = replicate carried_room 0;
  carries = replicate event_limit 0;
  under = replicate status_limit 0;
}

-- WHAT TABLES STAND FOR, whatever they hold

-- the names at n places from place i on
unfoldable pub names_at : Heads → ℕ → ℕ → List Name
names_at h i n = take n (drop i (names_in h.names))

abbrev pub under_of : ℕ → Option ℕ
under_of zero = none
under_of (suc p) = some p

-- the events at the places, with what they carry
abbrev pub event_at : Heads → ℕ → Event
event_at h e = record { name = get_or (names_in h.names) (h.fields + e) []; carries = take (get_or h.carries e 0) (drop (field_limit * e) h.carried) }

-- the status at a place
abbrev pub status_at : Heads → ℕ → Status
status_at h x = record { name = get_or (names_in h.names) (h.fields + h.events + x) []; under = under_of (get_or h.under x 0) }

-- what stands above the rules
unfoldable pub heads_of : Heads → M.Heads
heads_of h = record {
  model = name_of h.model;
  fields = names_at h 0 h.fields;
  events = map (event_at h) (from 0 h.events);
  stages = map (status_at h) (from 0 h.stages);
  miles = map (status_at h) (from h.stages h.miles);
}

-- tables as a sheet that was read has them: counts within their limits, places within their tables
pub record Sized (h : Heads) : Type 0 where
  pub few_fields : h.fields ≤ field_limit
  pub few_events : h.events ≤ event_limit
  pub few_statuses : h.stages + h.miles ≤ status_limit
  pub few_carried : (e : ℕ) → get_or h.carries e 0 ≤ field_limit
  pub fields_carried : (e i : ℕ) → i < get_or h.carries e 0 → get_or h.carried (field_limit * e + i) 0 < h.fields
  pub under_stage : (x : ℕ) → get_or h.under x 0 ≤ h.stages
