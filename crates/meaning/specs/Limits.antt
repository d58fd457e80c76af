-- Every limit of document 01, each in one place.
use Rattle.std.specs.Prelude.{ℕ, ◌+◌}

-- "sheet over 32,768 bytes, card over 1,024, event over 512; line 0"
abbrev pub sheet_bytes : ℕ
sheet_bytes = 32768

-- "sheet over 32,768 bytes, card over 1,024, event over 512; line 0"
abbrev pub card_bytes : ℕ
card_bytes = 1024

-- "sheet over 32,768 bytes, card over 1,024, event over 512; line 0"
abbrev pub event_bytes : ℕ
event_bytes = 512

-- the desk program: "Over 34,304 bytes: LONG, paper 0, line 0"
abbrev pub desk_bytes : ℕ
desk_bytes = 34304

-- "A name is 1 to 12 lower-case letters and digits"
abbrev pub name_bytes : ℕ
name_bytes = 12

-- "`field=NAME`, 0 to 16"
abbrev pub field_limit : ℕ
field_limit = 16

-- "`event=NAME` .. 0 to 16 lines"
abbrev pub event_limit : ℕ
event_limit = 16

-- "Stages and miles together: 0 to 32"
abbrev pub status_limit : ℕ
status_limit = 32

-- "`rule=` .. 0 to 128"
abbrev pub rule_limit : ℕ
rule_limit = 128

-- "All conditions of a sheet together have at most 512 leaves (status mentions and comparisons)"
abbrev pub leaf_limit : ℕ
leaf_limit = 512

-- "Nots and groups nest at most 8 deep"
abbrev pub nest_limit : ℕ
nest_limit = 8

-- "MANY is given exactly when the product of the parts over the `?` fields exceeds 4,096"
abbrev pub part_limit : ℕ
part_limit = 4096

-- numbers run "from -1000000000 to 1000000000" and are kept as their place on that scale: the place of 0, which is also the greatest amount, and the place of
-- the highest
abbrev pub middle : ℕ
middle = 1000000000

abbrev pub highest : ℕ
highest = middle + middle
