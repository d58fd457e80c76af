-- How much space is lent for what is printed, by the limits that each size follows from.
use Rattle.std.specs.Prelude.{ℕ, ◌+◌, ◌*◌}
use Rattle.meaning.specs.Limits.{sheet_bytes, card_bytes, name_bytes, status_limit, rule_limit, part_limit}
use Rattle.limits.specs.Sizes.{node_room}

-- a refusal's line at its longest: `refused=`, three numbers of ten digits, two spaces and LF
abbrev pub refusal_line : ℕ
refusal_line = 41

-- a line of the outlook at its longest: `outlook=`, ten digits and LF
abbrev pub pattern_line : ℕ
pattern_line = 19

-- all lines of an outlook
abbrev pub list_room : ℕ
list_room = part_limit * pattern_line

-- all that the desk prints: the lines of an outlook, and as many bytes more as there may be of them for the next card and the tasks
abbrev pub desk_room : ℕ
desk_room = list_room + part_limit

-- what the clerk's program prints with the word `why`: the rules' own words, and 128 bytes beside them for each rule that there may be
abbrev pub why_room : ℕ
why_room = sheet_bytes + 128 * rule_limit

-- with the words `card` and `blank`: a card
abbrev pub card_room : ℕ
card_room = card_bytes

-- with the word `outlook`: for each pattern the names of all statuses with a byte before each, and 48 bytes more
abbrev pub named_room : ℕ
named_room = part_limit * (status_limit * (name_bytes + 1) + 48)

-- with the word `check`: a line of at most 128 bytes for each node of a circle
abbrev pub check_room : ℕ
check_room = 128 * node_room
