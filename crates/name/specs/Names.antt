-- What a kept name and a table of names stand for. Callers go by the laws of `proofs/Tables.antt` and `proofs/Callers.antt`: they unfold nothing of this.
use Rattle.std.specs.Prelude.{ℕ, suc, ◌≡◌, List, [], ◌∷◌, map, take, drop, get_or, set}
use Rattle.meaning.specs.Limits.{name_bytes}
use Rattle.meaning.specs.Name.{Name}
use Rattle.limits.specs.Sizes.{name_room}
use Rattle.theory.specs.Lists.Padded.{padded}
use Rattle.name.specs.declared.Name.{Name as Kept}
use Rattle.name.specs.Packed.{packed, named}

-- a name as it is kept
unfoldable pub kept : Name → Kept
kept n = record { word = packed n }

-- the name that a kept one stands for
unfoldable pub name_of : Kept → Name
name_of k = named k.word

-- the most bytes that a kept name has, whatever its number
abbrev pub spell_room : ℕ
spell_room = suc name_bytes

-- the kept names of a table or of a part of one, at all its places
unfoldable pub kept_in : List ℕ → List Kept
kept_in [] = []
kept_in (v ∷ t) = record { word = v } ∷ kept_in t

-- WHAT A TABLE STANDS FOR: the names at all its places
unfoldable pub names_in : List ℕ → List Name
names_in t = map name_of (kept_in t)

-- the kept name at a place, and none behind the last
unfoldable pub name_at : List ℕ → ℕ → Kept
name_at t i = get_or (kept_in t) i (kept [])

-- the numbers of names, one name behind another
unfoldable pub words_of : List Name → List ℕ
words_of ns = map packed ns

-- how many numbers the table of a sheet's names has
abbrev pub table_words : ℕ
table_words = name_room

-- the table of these names, with blank ones behind the last
unfoldable pub table_of : List Name → List ℕ
table_of ns = padded table_words 0 (words_of ns)

-- the table with a name put at a place
unfoldable pub put_in : List ℕ → ℕ → Kept → List ℕ
put_in t i k = set t i k.word

-- the part of a table with n names from a place on
unfoldable pub part_of : List ℕ → ℕ → ℕ → List ℕ
part_of t i n = take n (drop i t)

-- names that are told again when they were kept, as good ones are
abbrev pub Again : List Name → Type 0
Again ns = map name_of (map kept ns) ≡ ns
