-- Tests put one after another into an array, as long as there is room.
use Rattle.std.specs.Prelude.{ℕ, suc, Bool, true, false, List, [], ◌∷◌, ltb, set, replicate}
use Rattle.limits.specs.Sizes.{test_room}
use Rattle.graph_tests.specs.declared.Test.{Test}
use Rattle.graph_tests.specs.Table.{no_test}

-- the tests listed so far
pub record Listed : Type 0 where
  pub rows : List Test
  pub count : ℕ

-- nothing listed yet
abbrev pub none_listed : Listed
none_listed = record { rows = replicate test_room no_test; count = 0 }

-- one more, where there is room
abbrev pub add_if : Bool → Listed → Test → Listed
add_if true l t = record { rows = set l.rows l.count t; count = suc l.count }
add_if false l t = l

-- all of a list
unfoldable pub add_all : Listed → List Test → Listed
add_all l [] = l
add_all l (t ∷ ts) = add_all (add_if (ltb l.count test_room) l t) ts
