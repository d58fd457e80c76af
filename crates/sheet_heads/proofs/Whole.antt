-- The sections one after the other are what stands above the rules: each may begin where the one before it ended.
use mathlib.Core.Path.{◌≡◌, sym, ◌∙◌, ap}
use mathlib.Core.List.{List}
use Prim.Native.Nat.{ℕ}
use Rattle.std.specs.Prelude.{Result}
use Rattle.meaning.specs.Text.{text}
use Rattle.meaning.specs.Reading.{Reader, after, ◌>>=◌}
use Rattle.meaning.specs.Sheet.{Heads, with_stage}
use Rattle.meaning.specs.ReadSheet.{model_line, field_lines, event_lines, stage_lines, mile_lines, heads}
use Rattle.theory.specs.Reading.Built.{Built, bind_built}
use Rattle.theory.specs.Reading.BuiltPapers.{model_built, fields_built, events_built, statuses_built}
use Rattle.theory.specs.Reading.Readers.{Ensures, bind_ensures, after_after}
use Rattle.theory.specs.Papers.Formed.{WellHeads, NoFields, NoEvents, NoStages, NoMiles}
use Rattle.theory.specs.Papers.Sheets.{model_well, fields_well, events_well, stages_well}
use Rattle.reply.specs.declared.Wrong.{Wrong}
use Rattle.sheet_section.specs.declared.Above.{Above}
use Rattle.sheet_section.specs.Answers.{as_above, so_far}
use Rattle.sheet_section.specs.Held.{Started}
use Rattle.sheet_section.proofs.Callers.{Spread, model_spread, on_spread, reached, read_on}

-- up to the fields, the events, the stages
abbrev to_fields : Reader Heads
to_fields = model_line >>= field_lines

abbrev to_events : Reader Heads
to_events = to_fields >>= event_lines

abbrev to_stages : Reader Heads
to_stages = to_events >>= stage_lines

fields_so_built : Built to_fields
fields_so_built = bind_built model_built fields_built

events_so_built : Built to_events
events_so_built = bind_built fields_so_built events_built

stages_so_built : Built to_stages
stages_so_built = bind_built events_so_built (statuses_built (text "stage=") with_stage)

fields_so_well : Ensures to_fields (λ hd. WellHeads hd × NoEvents hd)
fields_so_well = bind_ensures model_well λ hd h. fields_well hd h.0 h.1

events_so_well : Ensures to_events (λ hd. WellHeads hd × NoStages hd)
events_so_well = bind_ensures fields_so_well λ hd h. events_well hd h.0 h.1

stages_so_well : Ensures to_stages (λ hd. WellHeads hd × NoMiles hd)
stages_so_well = bind_ensures events_so_well λ hd h. stages_well hd h.0 h.1

-- the whole, section after section
heads_parts : (l : ℕ) (s : List ℕ) → heads l s ≡ (to_stages >>= mile_lines) l s
unfolding heads
heads_parts l s = sym (simp after_after)

module _ (s : List ℕ) (m : Result Above Wrong) (model : m ≡ as_above s (model_line 1 s)) where
  pub heads_fields : Started NoFields s m
  heads_fields = reached s model_built model_well (model_spread s) m model

  module _ (f : Result Above Wrong) (fields : f ≡ as_above s (after (so_far s m) field_lines)) where
    fields_is : f ≡ as_above s (to_fields 1 s)
    fields_is = read_on s model_built model_well (model_spread s) m model field_lines f fields

    fields_spread : Spread s to_fields
    fields_spread = on_spread model_line field_lines fields_built s (model_spread s)

    pub heads_events : Started NoEvents s f
    heads_events = reached s fields_so_built fields_so_well fields_spread f fields_is

    module _ (e : Result Above Wrong) (events : e ≡ as_above s (after (so_far s f) event_lines)) where
      events_is : e ≡ as_above s (to_events 1 s)
      events_is = read_on s fields_so_built fields_so_well fields_spread f fields_is event_lines e events

      events_spread : Spread s to_events
      events_spread = on_spread to_fields event_lines events_built s fields_spread

      pub heads_stages : Started NoStages s e
      heads_stages = reached s events_so_built events_so_well events_spread e events_is

      module _ (x : Result Above Wrong) (stages : x ≡ as_above s (after (so_far s e) stage_lines)) where
        stages_is : x ≡ as_above s (to_stages 1 s)
        stages_is = read_on s events_so_built events_so_well events_spread e events_is stage_lines x stages

        stages_spread : Spread s to_stages
        stages_spread = on_spread to_events stage_lines (statuses_built (text "stage=") with_stage) s events_spread

        pub heads_miles : Started NoMiles s x
        heads_miles = reached s stages_so_built stages_so_well stages_spread x stages_is

        pub heads_read : (r : Result Above Wrong) → r ≡ as_above s (after (so_far s x) mile_lines) → r ≡ as_above s (heads 1 s)
        heads_read r miles =
            read_on s stages_so_built stages_so_well stages_spread x stages_is mile_lines r miles ∙ ap (as_above s) (sym (heads_parts 1 s))

pub ruleset sectioning = (heads_fields, heads_events, heads_stages, heads_miles, heads_read)
