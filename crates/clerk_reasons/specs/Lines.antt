-- The line of a reason, by its number, (status x 1000 + line) x 10 + kind, and on the tables of a sheet.
use Rattle.std.specs.Prelude.{ℕ, zero, suc, ◌+◌, ◌*◌, ◌/◌, ◌%◌, ◌<◌, cond, List, [], ◌++◌, eqb, length, take, drop, get_or}
use Rattle.meaning.specs.Limits.{status_limit}
use Rattle.meaning.specs.Text.{text, joined}
use Rattle.meaning.specs.Number.{decimal}
use Rattle.meaning.specs.Desk.{line_length}
use Rattle.meaning.specs.Why.{trigger_not_met, home_not_open, condition_false, condition_unknown, Kind, held, closed, stopped}
use Rattle.meaning.specs.Clerk.{kind_words, change_sign, parent_told}
use Rattle.marks.specs.Codes.{is_yes}
use Rattle.name.specs.declared.Name.{Name as Kept}
use Rattle.name.specs.Names.{kept, name_of, name_at}
use Rattle.sheet_tables.specs.declared.Heads.{Heads}
use Rattle.desk_split.specs.Lines.{line_starts}

-- the kind with a number
unfoldable pub kind_of : ℕ → Kind
kind_of n =
    cond (eqb n 1) held
    (cond (eqb n 2) closed
    (cond (eqb n 3) (stopped trigger_not_met)
    (cond (eqb n 4) (stopped home_not_open)
    (cond (eqb n 5) (stopped condition_false) (stopped condition_unknown)))))

-- the name of a status, as it is kept
abbrev pub kept_of : Heads → ℕ → Kept
kept_of h x = name_at h.names (h.fields + h.events + x)

-- that of the stage with a parent's code; none where there is no parent
abbrev pub over_of : Heads → ℕ → Kept
over_of h zero = kept []
over_of h (suc p) = kept_of h p

-- the line from a place on, behind its key, a sign and n bytes
unfoldable pub words_from : List ℕ → ℕ → ℕ → List ℕ
words_from s at n = drop (6 + n) (take (line_length (drop at s)) (drop at s))

-- ` line N `, the words of a kind, `:` and the rule's own words
unfoldable pub rule_text : ℕ → ℕ → List ℕ → List ℕ
rule_text l kind words = text " line " ++ decimal l ++ text " " ++ kind_words (kind_of kind) ++ text ":" ++ words

-- what is told behind the name of a status
unfoldable pub told_text : List ℕ → List ℕ → Heads → ℕ → List ℕ
told_text s starts h n =
    cond (eqb (n % 10) 2) (parent_told (name_of (over_of h (get_or h.under (n / 10000) 0))))
    (rule_text (n % 10000 / 10) (n % 10) (words_from s (get_or starts (n % 10000 / 10) 0) (length (name_of (kept_of h (n / 10000))))))

-- "`why=`, the sign of the change"; a status that was yes can only fall
unfoldable pub key_text : ℕ → List ℕ
key_text mark = text "why=" ++ change_sign (is_yes mark)

-- the whole line
unfoldable pub reason_text : List ℕ → List ℕ → Heads → List ℕ → ℕ → List ℕ
reason_text s starts h marks n = key_text (get_or marks (n / 10000) 0) ++ name_of (kept_of h (n / 10000)) ++ told_text s starts h n

-- those of several reasons, on the sheet itself
unfoldable pub reasons_text : List ℕ → Heads → List ℕ → List ℕ → List ℕ
reasons_text s h marks ns = joined (reason_text s (line_starts 999 s) h marks) ns

-- reasons of statuses that the tables hold
abbrev pub Held : List ℕ → Type 0
Held ns = (i : ℕ) → get_or ns i 0 < status_limit * 10000
