-- What the desk program prints, on the tables of a case that was read.
use Rattle.std.specs.Prelude.{ℕ, zero, suc, ◌+◌, ◌/◌, List, [], ◌++◌, get_or}
use Rattle.meaning.specs.Name.{Name}
use Rattle.name.specs.Names.{names_in}
use Rattle.sheet_tables.specs.declared.Heads.{Heads}
use Rattle.case_read.specs.declared.Case.{Case}
use Rattle.step_case.specs.Next.{text_after, tasks_after}
use Rattle.desk_print.specs.Lines.{start_text}

-- a line for each task: n names from place i on, told by the bits of t from the lowest
unfoldable pub starts_text : List Name → ℕ → ℕ → ℕ → List ℕ
starts_text names i zero t = []
starts_text names i (suc n) t = start_text (get_or names i []) t ++ starts_text names (suc i) n (t / 2)

-- those of a sheet's stages
unfoldable pub tasks_text : Heads → ℕ → List ℕ
tasks_text h t = starts_text (names_in h.names) (h.fields + h.events) h.stages t

-- the next card of a case that was read off these papers, and its tasks
unfoldable pub step_text : Case → List ℕ → List ℕ → List ℕ
step_text x card event =
    text_after x.sheet x.card x.happening card event ++ tasks_text x.sheet.heads (tasks_after x.sheet x.card x.happening)
