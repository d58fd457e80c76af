-- The blank card of a sheet is an accepted card of it, and short.
use Rattle.std.specs.Prelude.{ℕ, ◌≤◌, ◌≡◌, refl, Bool, false, List, map, length}
use Rattle.std.proofs.Math.Option.{none}
use Rattle.std.proofs.Common.{arith}
use Rattle.std.proofs.lemmas.List.{length-map}
use Rattle.std.proofs.Math.ListN.{get_or-map}
use Rattle.meaning.specs.Text.{begins}
use Rattle.meaning.specs.Refusal.{taken}
use Rattle.meaning.specs.Reading.{not_ended, stands}
use Rattle.meaning.specs.Name.{Name}
use Rattle.meaning.specs.Number.{Entry, entry}
use Rattle.meaning.specs.Sheet.{Heads, Status, statuses}
use Rattle.meaning.specs.Card.{orphan, read_card}
use Rattle.meaning.specs.Doors.{Accepted, read_sheet}
use Rattle.meaning.specs.Clerk.{unasked, blank_card}
use Rattle.theory.specs.Lists.Members.{map_in}
use Rattle.theory.specs.Step.Shelter.{nowhere, none_orphan}
use Rattle.theory.specs.Papers.Formed.{Each, WellHeads}
use Rattle.theory.specs.Papers.Entries.{Proper}
use Rattle.theory.specs.Papers.Case.{sheet_holds}
use Rattle.theory.specs.Writing.ReadBack.{card_length, longest_card, card_again}

-- `?` is an entry as it is read
unasked_proper : Proper unasked
unfolding entry not_ended stands begins
unasked_proper = record { shown = λ l t. refl; short = omega arith }

module _ (hd : Heads) where
  -- `?` in every field
  abbrev pub blanks : List Entry
  blanks = map (λ (n : Name). unasked) hd.fields

  -- no for every status
  abbrev pub all_no : List Bool
  all_no = map (λ (s : Status). false) (statuses hd)

  -- one for each
  blanks_long : length blanks ≡ length hd.fields
  blanks_long = length-map hd.fields (λ (n : Name). unasked)

  all_no_long : length all_no ≡ length (statuses hd)
  all_no_long = length-map (statuses hd) (λ (s : Status). false)

  blanks_proper : Each Proper blanks
  blanks_proper e i = let (n, j, q) = map_in (λ (n : Name). unasked) e hd.fields i in rw q unasked_proper

  -- no stage is yes, so none is an orphan
  none_yes : orphan all_no 0 hd.stages ≡ none
  none_yes = none_orphan all_no hd.stages (λ x h. rw (get_or-map (λ (s : Status). false) (statuses hd) x nowhere))

  module _ (well : WellHeads hd) where
    -- it is read back,
    pub blank_again : read_card hd (blank_card hd) ≡ taken (record { entries = blanks; statuses = all_no })
    unfolding blank_card
    blank_again = card_again hd well blanks all_no blanks_long all_no_long blanks_proper none_yes

    -- and short
    pub blank_short : length (blank_card hd) ≤ longest_card
    unfolding blank_card
    blank_short = card_length hd well blanks all_no blanks_long all_no_long blanks_proper

-- the blank card of an accepted sheet is an accepted card of it
pub blank_accepted : (s : List ℕ) (a : Accepted) → read_sheet s ≡ taken a
    → read_card a.sheet.heads (blank_card a.sheet.heads)
    ≡ taken (record { entries = map (λ n. unasked) a.sheet.heads.fields; statuses = map (λ s. false) (statuses a.sheet.heads) })
blank_accepted s a q = blank_again a.sheet.heads (sheet_holds s a q).0.heads
