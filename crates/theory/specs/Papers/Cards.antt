-- Cards and event lines that were read: an entry for each field, a mark for each status, values for the fields that the event carries.
use Rattle.std.specs.Prelude.{ℕ, zero, suc, ◌+◌, ◌<◌, ◌≡◌, refl, List, [], ◌∷◌, map, length, get_or}
use Rattle.std.proofs.Common.{◌∙◌, inl, inr}
use Rattle.std.proofs.lemmas.List.{length-map}
use Rattle.meaning.specs.Text.{text}
use Rattle.meaning.specs.Refusal.{LINE}
use Rattle.meaning.specs.Reading.{Reader, due, line_end, closed}
use Rattle.meaning.specs.Name.{Name}
use Rattle.meaning.specs.Number.{Entry, end_line}
use Rattle.meaning.specs.Sheet.{Heads, Event, Status, statuses, status_names, event_names}
use Rattle.meaning.specs.Card.{Card, keyed, field_entry, status_mark, ended, case_line, card, Put, Happening, carried_by, spaced, put, happening}
use Rattle.theory.specs.Reading.Readers.{Ensures, give_ensures, bind_ensures, any_ensures, along_length, along_in, along_map, each_along, each_length}
use Rattle.theory.specs.Papers.Names.{known_below}
use Rattle.theory.specs.Papers.Formed.{Each, EventIn, WellHeads}
use Rattle.theory.specs.Papers.Entries.{Proper, entry_proper}

-- a card of this sheet
pub record CardIn (hd : Heads) (c : Card) : Type 0 where
  pub entries : length c.entries ≡ length hd.fields
  pub proper : Each Proper c.entries
  pub marked : length c.statuses ≡ length (statuses hd)

-- the entry of a field
field_proper : (n : Name) → Ensures (field_entry n) Proper
unfolding field_entry
field_proper n =
    any_ensures (keyed n) λ _.
    entry_proper

-- of a whole line
ended_ensures : {A : Type 0} {P : A → Type 0} {r : Reader A} → Ensures r P → Ensures (ended r) P
unfolding ended
ended_ensures h =
    bind_ensures h λ a p.
    any_ensures (line_end LINE) λ _.
    give_ensures p

-- whatever is read as a card has an entry for each field and a mark for each status
pub card_marked : (hd : Heads) → Ensures (card hd) (CardIn hd)
unfolding card status_names
card_marked hd =
    any_ensures (case_line hd.model) λ _.
    bind_ensures (each_along {R = λ e n. Proper e} (λ n. ended_ensures (field_proper n)) hd.fields) λ es he.
    bind_ensures (each_length (λ n. ended (status_mark n)) (status_names (statuses hd))) λ ss hs.
    any_ensures (end_line (length es + length ss)) λ _.
    give_ensures (record {
      entries = along_length (λ (e : Entry) (n : Name). Proper e) es hd.fields he;
      proper = λ e i. (along_in (λ (e : Entry) (n : Name). Proper e) es hd.fields he e i).2;
      marked = hs ∙ length-map (statuses hd) (λ (s : Status). s.name);
    })

-- what is put into one of m fields
pub record PutIn (m : ℕ) (p : Put) : Type 0 where
  pub field : p.field < m
  pub proper : Proper p.entry

-- an event line of this sheet: one of its events, with values for just the fields that this one carries, in their order
pub record HappeningIn (hd : Heads) (h : Happening) : Type 0 where
  pub event : h.event < length hd.events
  pub puts : Each (PutIn (length hd.fields)) h.puts
  pub carried : map (λ p. p.field) h.puts ≡ carried_by hd h.event

-- what is put into the field f
pub put_proper : (hd : Heads) (f : ℕ) → Ensures (put hd f) (λ p. (p.field ≡ f) × Proper p.entry)
unfolding put spaced
put_proper hd f =
    bind_ensures (any_ensures (due LINE (text " ")) λ _. field_proper (get_or hd.fields f [])) λ e h.
    give_ensures (refl, h)

-- the fields that the event at a place carries
carries_in : (m : ℕ) (es : List Event) → Each (EventIn m) es → (i : ℕ) → Each (λ f. f < m) (get_or es i (record { name = []; carries = [] })).carries
carries_in m [] h i = λ f j. absurd j
carries_in m (e ∷ es) h zero = (h e (inl refl)).carries
carries_in m (e ∷ es) h (suc i) = carries_in m es (λ x j. h x (inr j)) i

-- whatever is read as an event line
pub happening_in : (hd : Heads) → WellHeads hd → Ensures (happening hd) (HappeningIn hd)
unfolding happening event_names carried_by
happening_in hd w =
    bind_ensures (known_below (event_names hd.events)) λ i hi.
    bind_ensures (each_along (put_proper hd) (carried_by hd i)) λ ps hp.
    any_ensures closed λ _.
    give_ensures (record {
      event = rw (length-map hd.events (λ (e : Event). e.name)) at hi;
      puts = λ p j.
          let (f, m, (e, h)) = along_in (λ (p : Put) (f : ℕ). (p.field ≡ f) × Proper p.entry) ps (carried_by hd i) hp p j in
          record { field = rw e (carries_in (length hd.fields) hd.events w.events i f m); proper = h };
      carried = along_map (λ (p : Put) (f : ℕ). (p.field ≡ f) × Proper p.entry) (λ p. p.field) (λ p f h. h.0) ps (carried_by hd i) hp;
    })
