-- The lines of an outlook in names, told by bits from the lowest.
use Rattle.std.specs.Prelude.{ℕ, ◌+◌, ◌/◌, ◌%◌, Bool, ◌||◌, cond, List, [], ◌∷◌, ◌++◌, eqb}
use Rattle.std.specs.Int.Bits.{bit_and, bit_or}
use Rattle.meaning.specs.Text.{text}
use Rattle.meaning.specs.Name.{Name}
use Rattle.meaning.specs.Prospect.{Prospect, always, never, still_open}
use Rattle.meaning.specs.Write.{line}
use Rattle.meaning.specs.Clerk.{prospect_word}
use Rattle.sheet_tables.specs.declared.Heads.{Heads}
use Rattle.sheet_tables.specs.Heads.{names_at}
use Rattle.clerk_prospects.specs.declared.Common.{Common}

-- the bits of a that every pattern has
unfoldable pub all_with : ℕ → List ℕ → ℕ
all_with a [] = a
all_with a (p ∷ ps) = all_with (bit_and a p) ps

-- those of a, and those that some pattern has
unfoldable pub some_with : ℕ → List ℕ → ℕ
some_with a [] = a
some_with a (p ∷ ps) = some_with (bit_or a p) ps

-- a pattern has 32 bits
unfoldable pub common_of : List ℕ → Common
common_of ps = record { all = all_with 4294967295 ps; some = some_with 0 ps }

-- what the lowest bits tell of a status
abbrev pub lowest : ℕ → ℕ → Prospect
lowest all some = cond (eqb (all % 2) 1) always (cond (eqb (some % 2) 1) still_open never)

-- its line
unfoldable pub word_line : Name → ℕ → ℕ → List ℕ
word_line name all some = line name (prospect_word (lowest all some))

-- those of several
unfoldable pub word_lines : List Name → ℕ → ℕ → List ℕ
word_lines [] all some = []
word_lines (n ∷ ns) all some = word_line n all some ++ word_lines ns (all / 2) (some / 2)

-- a name of a pattern, where the lowest bit is set, with a space before it where a name stands behind which it comes
unfoldable pub name_text : Bool → Name → ℕ → List ℕ
name_text behind n p = cond (eqb (p % 2) 1) (cond behind (text " ") [] ++ n) []

-- those of several
unfoldable pub names_text : Bool → List Name → ℕ → List ℕ
names_text behind [] p = []
names_text behind (n ∷ ns) p = name_text behind n p ++ names_text (behind || eqb (p % 2) 1) ns (p / 2)

-- the names of the statuses
abbrev pub status_names_of : Heads → List Name
status_names_of h = names_at h (h.fields + h.events) (h.stages + h.miles)
