-- Every sheet that was read is well formed.
use Rattle.std.specs.Prelude.{ℕ, suc, ◌+◌, ◌≤◌, refl, length}
use mathlib.Core.List.{List, [], ◌∷◌, ◌++◌}
use Rattle.std.proofs.Common.{arith}
use Rattle.std.proofs.Math.ListN.{length-append}
use Rattle.std.proofs.lemmas.List.{length-map}
use Rattle.meaning.specs.Text.{text}
use Rattle.meaning.specs.Refusal.{LINE}
use Rattle.meaning.specs.Limits.{field_limit, event_limit, status_limit, rule_limit}
use Rattle.meaning.specs.Reading.{◌>>=◌, give, due, line_end}
use Rattle.meaning.specs.Name.{Name}
use Rattle.meaning.specs.Number.{end_line}
use Rattle.meaning.specs.Sheet.{Heads, Event, Status, Rule, statuses, status_names, event_names, all_names, with_stage, with_mile, leaves}
use Rattle.meaning.specs.ReadSheet.{field_row, event_row, status, model_line, field_lines, event_lines, stage_lines, mile_lines, heads, rule_row, rules_of, sheet}
use Rattle.theory.specs.Lists.Members.{once_more}
use Rattle.theory.specs.Reading.Readers.{Ensures, give_ensures, bind_ensures, any_ensures, ensures_weaker, section_ensures}
use Rattle.theory.specs.Papers.Names.{Good, name_good, new_name_new}
use Rattle.theory.specs.Papers.Formed.{Each, StatusIn, EventIn, RuleIn, WellHeads, NoFields, NoEvents, NoStages, NoMiles, Well, each_more, names_field, names_event, names_stage, names_mile, status_up, behind_more, carried_in_lem, status_in_lem, rule_in}

-- THE MODEL
pub model_well : Ensures model_line (λ hd. WellHeads hd × NoFields hd)
unfolding model_line all_names event_names status_names statuses
model_well =
    any_ensures (due LINE (text "model=")) λ _.
    bind_ensures name_good λ m h.
    any_ensures (line_end LINE) λ _.
    give_ensures (
      record {
        model = h;
        fields = λ n i. absurd i;
        events = λ e i. absurd i;
        stages = λ x i. absurd i;
        miles = λ x i. absurd i;
        parents = tt;
        names = tt;
        fields_few = omega arith;
        events_few = omega arith;
        statuses_few = omega arith;
      },
      (refl, refl, refl, refl),
    )

-- SECTION BY SECTION: well formed, what follows not yet read, and room for m lines more

-- the fields
abbrev Fields : ℕ → Heads → Type 0
Fields m hd = WellHeads hd × NoEvents hd × (length hd.fields + m ≤ field_limit)

field_in_lem : (m : ℕ) (hd : Heads) → Fields (suc m) hd → Ensures (field_row hd) (Fields m)
unfolding field_row statuses
field_in_lem m hd (w, late, room) =
    bind_ensures (new_name_new (all_names hd)) λ n g.
    any_ensures (line_end LINE) λ _.
    let more = length-append hd.fields (n ∷ []) in
    give_ensures (
      record {
        model = w.model;
        fields = each_more Good hd.fields n w.fields g.0;
        events = λ e i. absurd (rw late.0 at i);
        stages = w.stages;
        miles = w.miles;
        parents = w.parents;
        names = rw (names_field hd n late) (once_more (all_names hd) n w.names g.1);
        fields_few = omega arith;
        events_few = w.events_few;
        statuses_few = w.statuses_few;
      },
      late,
      omega arith,
    )

pub fields_well : (hd : Heads) → WellHeads hd → NoFields hd → Ensures (field_lines hd) (λ hd. WellHeads hd × NoEvents hd)
fields_well hd w late =
    ensures_weaker (λ g q. (q.1.0, q.1.1)) (section_ensures Fields (text "field=") field_row field_in_lem field_limit hd
    (w, (late.1, late.2, late.3), rw late.0 (omega arith)))

-- the events
abbrev Events : ℕ → Heads → Type 0
Events m hd = WellHeads hd × NoStages hd × (length hd.events + m ≤ event_limit)

event_in : (m : ℕ) (hd : Heads) → Events (suc m) hd → Ensures (event_row hd) (Events m)
unfolding event_row statuses
event_in m hd (w, late, room) =
    bind_ensures (new_name_new (all_names hd)) λ n g.
    bind_ensures (carried_in_lem hd.fields (suc (length hd.fields)) [] (λ f i. absurd i) tt) λ fs h.
    let e : Event = record { name = n; carries = fs } in
    let more = length-append hd.events (e ∷ []) in
    give_ensures (
      record {
        model = w.model;
        fields = w.fields;
        events = each_more (EventIn (length hd.fields)) hd.events e w.events (record { name = g.0; carries = h.0; once = h.1 });
        stages = w.stages;
        miles = w.miles;
        parents = w.parents;
        names = rw (names_event hd e late) (once_more (all_names hd) n w.names g.1);
        fields_few = w.fields_few;
        events_few = omega arith;
        statuses_few = w.statuses_few;
      },
      late,
      omega arith,
    )

pub events_well : (hd : Heads) → WellHeads hd → NoEvents hd → Ensures (event_lines hd) (λ hd. WellHeads hd × NoStages hd)
events_well hd w late =
    ensures_weaker (λ g q. (q.1.0, q.1.1)) (section_ensures Events (text "event=") event_row event_in event_limit hd
    (w, (late.1, late.2), rw late.0 (omega arith)))

-- the stages
abbrev Stages : ℕ → Heads → Type 0
Stages m hd = WellHeads hd × NoMiles hd × (length (statuses hd) + m ≤ status_limit)

stage_in : (m : ℕ) (hd : Heads) → Stages (suc m) hd → Ensures (status hd >>= λ x. give (with_stage hd x)) (Stages m)
unfolding statuses
stage_in m hd (w, late, room) =
    bind_ensures (status_in_lem hd) λ x g.
    let one = length-append hd.stages (x ∷ []) in
    let old = length-append hd.stages hd.miles in
    let more = length-append (hd.stages ++ (x ∷ [])) hd.miles in
    give_ensures (
      record {
        model = w.model;
        fields = w.fields;
        events = w.events;
        stages =
            λ y i. status_up (length hd.stages) (length (hd.stages ++ (x ∷ []))) y (omega arith)
            (each_more (StatusIn (length hd.stages)) hd.stages x w.stages g.0 y i);
        miles = λ y i. absurd (rw late at i);
        parents = behind_more 0 (length hd.stages) hd.stages x (omega arith) w.parents g.0.under;
        names = rw (names_stage hd x late) (once_more (all_names hd) x.name w.names g.1);
        fields_few = w.fields_few;
        events_few = w.events_few;
        statuses_few = omega arith;
      },
      late,
      omega arith,
    )

pub stages_well : (hd : Heads) → WellHeads hd → NoStages hd → Ensures (stage_lines hd) (λ hd. WellHeads hd × NoMiles hd)
stages_well hd w late =
    ensures_weaker (λ g q. (q.1.0, q.1.1)) (section_ensures Stages (text "stage=") _ stage_in _ hd (w, late.1, omega (arith, w.statuses_few)))

-- the miles
abbrev Miles : ℕ → Heads → Type 0
Miles m hd = WellHeads hd × (length (statuses hd) + m ≤ status_limit)

mile_in : (m : ℕ) (hd : Heads) → Miles (suc m) hd → Ensures (status hd >>= λ x. give (with_mile hd x)) (Miles m)
unfolding statuses
mile_in m hd (w, room) =
    bind_ensures (status_in_lem hd) λ x g.
    let one = length-append hd.miles (x ∷ []) in
    let old = length-append hd.stages hd.miles in
    let more = length-append hd.stages (hd.miles ++ (x ∷ [])) in
    give_ensures (
      record {
        model = w.model;
        fields = w.fields;
        events = w.events;
        stages = w.stages;
        miles = each_more (StatusIn (length hd.stages)) hd.miles x w.miles g.0;
        parents = w.parents;
        names = rw (names_mile hd x) (once_more (all_names hd) x.name w.names g.1);
        fields_few = w.fields_few;
        events_few = w.events_few;
        statuses_few = omega arith;
      },
      omega arith,
    )

pub miles_well : (hd : Heads) → WellHeads hd → Ensures (mile_lines hd) WellHeads
miles_well hd w = ensures_weaker (λ g q. q.1.0) (section_ensures Miles (text "mile=") _ mile_in _ hd (w, omega (arith, w.statuses_few)))

-- the rules
module _ (fields events sts : List Name) where
  abbrev Rules : ℕ → List Rule → Type 0
  Rules m rs = Each (RuleIn (length sts) (length fields) (length events)) rs × (length rs + m ≤ rule_limit)

  row_in : (m : ℕ) (rs : List Rule) → Rules (suc m) rs → Ensures (rule_row fields events sts rs) (Rules m)
  unfolding rule_row
  row_in m rs (h, room) =
      bind_ensures (rule_in fields events sts (length (leaves rs))) λ r g.
      let more = length-append rs (r ∷ []) in
      give_ensures (each_more (RuleIn (length sts) (length fields) (length events)) rs r h g, omega arith)

  -- with the last line
  rules_in : Ensures (rules_of fields events sts) (λ rs. Each (RuleIn (length sts) (length fields) (length events)) rs × (length rs ≤ rule_limit))
  unfolding rules_of
  rules_in =
      bind_ensures (section_ensures Rules (text "rule=") (rule_row fields events sts) row_in rule_limit [] (λ r i. absurd i, omega arith)) λ rs h.
      any_ensures (end_line (length rs)) λ _.
      give_ensures (h.1.0, omega (arith, h.1.1))

-- WHAT IS READ

-- what stands above the rules
pub heads_well : Ensures heads WellHeads
unfolding heads
heads_well =
    bind_ensures model_well λ hd h.
    bind_ensures (fields_well hd h.0 h.1) λ hd h.
    bind_ensures (events_well hd h.0 h.1) λ hd h.
    bind_ensures (stages_well hd h.0 h.1) λ hd h.
    miles_well hd h.0

-- a sheet, with its rules
pub sheet_well : Ensures sheet Well
unfolding sheet status_names event_names
sheet_well =
    bind_ensures heads_well λ hd h.
    bind_ensures (rules_in hd.fields (event_names hd.events) (status_names (statuses hd))) λ rules hr.
    give_ensures (record {
      heads = h;
      rules = λ r i. rw (length-map (statuses hd) (λ (s : Status). s.name), length-map hd.events (λ (e : Event). e.name)) at (hr.0 r i);
      rules_few = hr.1;
    })
