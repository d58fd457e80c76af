-- The names in the tables of a sheet that was read are the sheet's own.
use Prim.Native.Nat.{ℕ, ◌+◌}
use mathlib.Core.Path.{◌≡◌}
use mathlib.Core.List.{List, [], ◌++◌, append_assoc, append-nil}
use lib.ListN.{length, take, drop, length-map, length-append}
use native.Mathlib.Omega.{arith}
use Rattle.meaning.specs.Name.{Name}
use Rattle.meaning.specs.Sheet.{Heads, Event, Status, statuses, event_names, status_names, all_names}
use Rattle.theory.specs.Papers.Formed.{WellHeads}
use Rattle.name.specs.Names.{names_in, Again}
use Rattle.name.proofs.Tables.{again_each, table_part}
use Rattle.sheet_tables.specs.Heads.{as_heads}
use Rattle.sheet_tables.proofs.Tables.{all_good}

module _ (hd : Heads) (well : WellHeads hd) where
  abbrev es : List Name
  es = event_names hd.events

  abbrev ss : List Name
  ss = status_names (statuses hd)

  -- all names are told by their numbers
  again : Again (hd.fields ++ es ++ ss)
  unfolding all_names
  again = again_each (all_names hd) (all_good hd well)

  events_count : length es ≡ length hd.events
  unfolding event_names
  events_count = length-map hd.events (λ (e : Event). e.name)

  -- the three parts of the table
  pub fields_named : take (as_heads hd).fields (names_in (as_heads hd).names) ≡ hd.fields
  unfolding as_heads all_names
  fields_named = rw (append_assoc hd.fields es ss) (table_part [] hd.fields (es ++ ss) (rw (append_assoc hd.fields es ss) at again))

  pub events_named : take (as_heads hd).events (drop (as_heads hd).fields (names_in (as_heads hd).names)) ≡ es
  unfolding as_heads all_names
  events_named = rw (← events_count) (table_part hd.fields es ss again)

  pub statuses_named : (k : ℕ) → k ≡ (as_heads hd).stages + (as_heads hd).miles
      → take k (drop ((as_heads hd).fields + (as_heads hd).events) (names_in (as_heads hd).names)) ≡ ss
  unfolding as_heads all_names status_names statuses
  statuses_named k e =
      let n : k ≡ length ss = omega (arith, length-map (statuses hd) (λ (s : Status). s.name), length-append hd.stages hd.miles) in
      let m : length hd.fields + length hd.events ≡ length (hd.fields ++ es) = omega (arith, length-append hd.fields es, events_count) in
      rw (n, m, ← append-nil (hd.fields ++ es ++ ss)) (table_part (hd.fields ++ es) ss [] (rw (append-nil (hd.fields ++ es ++ ss)) again))
