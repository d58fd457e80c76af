-- What goes with a step, on the tables of a sheet, a card and an event line.
use Rattle.std.specs.Prelude.{ℕ, zero, suc, ◌||◌, not, cond, List, [], ◌∷◌, eqb, take, set}
use Rattle.meaning.specs.Kleene.{false₃}
use Rattle.marks.specs.Codes.{code, is_yes}
use Rattle.case_tables.specs.declared.Card.{Card}
use Rattle.case_tables.specs.declared.Happening.{Happening}
use Rattle.step_test.specs.declared.Moment.{Moment}

-- "the event's values put in": each at the place of its field
unfoldable pub put_codes : List ℕ → List ℕ → List ℕ → List ℕ
put_codes [] vs codes = codes
put_codes (f ∷ fs) [] codes = codes
put_codes (f ∷ fs) (v ∷ vs) codes = put_codes fs vs (set codes f v)

-- the moment of a card and an event line: the event, the values after it, the marks before
abbrev pub moment_of : Card → Happening → Moment
moment_of c h = record { event = h.event; values = put_codes (take h.count h.fields) h.values c.values; before = c.marks }

-- the stage of a parent's code (0 for none, otherwise its place and 1 more) is marked
abbrev pub mark_parent : List ℕ → ℕ → List ℕ
mark_parent ps zero = ps
mark_parent ps (suc p) = set ps p 1

unfoldable pub mark_parents : List ℕ → List ℕ → List ℕ
mark_parents ps [] = ps
mark_parents ps (c ∷ cs) = mark_parents (mark_parent ps c) cs

-- "stages that have no child stage and turned yes": the mark after, where it counts
unfoldable pub task_mark : ℕ → ℕ → ℕ → ℕ
task_mark parent before after = cond (not (eqb parent 0) || is_yes before) (code false₃) after

-- of all statuses
unfoldable pub task_marks : List ℕ → List ℕ → List ℕ → List ℕ
task_marks [] bs cs = []
task_marks (p ∷ ps) [] cs = []
task_marks (p ∷ ps) (b ∷ bs) [] = []
task_marks (p ∷ ps) (b ∷ bs) (c ∷ cs) = task_mark p b c ∷ task_marks ps bs cs
