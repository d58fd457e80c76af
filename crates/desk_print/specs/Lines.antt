-- The lines that the desk program prints.
use Rattle.std.specs.Prelude.{ℕ, ◌%◌, cond, List, [], eqb}
use Rattle.meaning.specs.Text.{text}
use Rattle.meaning.specs.Name.{Name}
use Rattle.meaning.specs.Number.{decimal}
use Rattle.meaning.specs.Write.{line}

-- "a line `start=NAME`" of a name, where the lowest bit of the tasks tells that this one was started
unfoldable pub start_text : Name → ℕ → List ℕ
start_text name tasks = cond (eqb (tasks % 2) 1) (line (text "start") name) []

-- "a line `outlook=PATTERN`"
abbrev pub pattern_text : ℕ → List ℕ
pattern_text p = line (text "outlook") (decimal p)

-- "or `outlook=refused`"
abbrev pub many_text : List ℕ
many_text = line (text "outlook") (text "refused")
