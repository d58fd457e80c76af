-- The sizes of the tables that follow from the limits of the document.
use Rattle.std.specs.Prelude.{ℕ, ◌+◌, ◌*◌}
use Rattle.meaning.specs.Limits.{field_limit, event_limit, status_limit, rule_limit, leaf_limit}

-- the names of a sheet: its fields, its events and its statuses
abbrev pub name_room : ℕ
name_room = field_limit + event_limit + status_limit

-- the fields that its events carry
abbrev pub carried_room : ℕ
carried_room = event_limit * field_limit

-- the nodes of its graph, two for each status
abbrev pub node_room : ℕ
node_room = 2 * status_limit

-- the words of all its conditions
abbrev pub word_room : ℕ
word_room = 2 * leaf_limit

-- its tests: the rules, and one implied closing for each status
abbrev pub test_room : ℕ
test_room = rule_limit + status_limit
