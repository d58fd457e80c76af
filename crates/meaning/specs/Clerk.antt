-- The clerk's program: what it prints with each of its words for the whole of its input.
use Rattle.std.specs.Prelude.{ℕ, zero, suc, ◌+◌, ◌-◌, ◌/◌, Bool, false, cond, List, [], ◌∷◌, ◌++◌, map, length, get_or, take, drop}
use Rattle.std.proofs.Math.Option.{Option, none, some}
use Rattle.meaning.specs.Text.{text, joined}
use Rattle.meaning.specs.Refusal.{Answer, taken, refused, CYCLE}
use Rattle.meaning.specs.Limits.{sheet_bytes}
use Rattle.meaning.specs.Reading.{paper}
use Rattle.meaning.specs.Name.{Name}
use Rattle.meaning.specs.Number.{Entry, missing, decimal}
use Rattle.meaning.specs.Sheet.{Heads, Sheet, status_names, statuses, stage_over, leaves}
use Rattle.meaning.specs.ReadSheet.{sheet}
use Rattle.meaning.specs.Card.{is}
use Rattle.meaning.specs.Dependency.{testing_order}
use Rattle.meaning.specs.Circle.{Edge, around, circle, edge_line}
use Rattle.meaning.specs.Step.{rising}
use Rattle.meaning.specs.Prospect.{Prospect, always, never, still_open, prospect, yes_names}
use Rattle.meaning.specs.Why.{trigger_not_met, home_not_open, condition_false, condition_unknown, Kind, held, closed, stopped, Reason}
use Rattle.meaning.specs.Write.{line, card_text}
use Rattle.meaning.specs.Doors.{Accepted, read_sheet, Case, read_case, next, outlook, reasons_in}
use Rattle.meaning.specs.Desk.{line_length, refusal_text, or_refusal, outlook_lines, on_papers}

-- WHY (request T-01)

-- a paper without its first n lines
unfoldable pub behind_lines : ℕ → List ℕ → List ℕ
behind_lines zero s = s
behind_lines (suc n) s = behind_lines n (drop (line_length s) s)

-- the line l of a paper, from 1, with its LF: "as they stand on the sheet"
unfoldable pub line_at : ℕ → List ℕ → List ℕ
line_at l s = let here = behind_lines (l - 1) s in take (line_length here) here

-- "the words": "words at the desk"
abbrev pub kind_words : Kind → List ℕ
kind_words held = text "held"
kind_words closed = text "closed"
kind_words (stopped trigger_not_met) = text "trigger not met"
kind_words (stopped home_not_open) = text "home not open"
kind_words (stopped condition_false) = text "condition false"
kind_words (stopped condition_unknown) = text "condition unknown"

-- the name of "the status"
unfoldable pub status_name : Heads → ℕ → Name
status_name hd x = get_or (status_names (statuses hd)) x []

-- the name of the stage over a status, for "or ` parent NAME ` and the words"
abbrev pub over_name : Heads → Option ℕ → Name
over_name hd none = []
over_name hd (some p) = status_name hd p

-- "the sign of the change": a status that was yes can only fall
abbrev pub change_sign : Bool → List ℕ
change_sign was = cond was (text "-") (text "+")

-- "` line N `, the words, `:` and the rule's own words as they stand on the sheet behind its status", with the LF that ends them
unfoldable pub rule_told : List ℕ → Name → ℕ → Kind → List ℕ
rule_told sheet name l k = text " line " ++ decimal l ++ text " " ++ kind_words k ++ text ":" ++ drop (length (text "rule=+") + length name) (line_at l sheet)

-- "or ` parent NAME ` and the words"
unfoldable pub parent_told : Name → List ℕ
parent_told name = text " parent " ++ name ++ text " " ++ kind_words closed ++ text "\n"

-- what is told behind the name of the status
abbrev pub kind_told : List ℕ → Heads → ℕ → ℕ → Kind → List ℕ
kind_told sheet hd x l held = rule_told sheet (status_name hd x) l held
kind_told sheet hd x l closed = parent_told (over_name hd (stage_over hd x))
kind_told sheet hd x l (stopped w) = rule_told sheet (status_name hd x) l (stopped w)

-- "one line for each reason, in order: `why=`, the sign of the change, the status, then" what is told
unfoldable pub why_line : List ℕ → Case → Reason → List ℕ
why_line sheet c r =
    text "why=" ++ change_sign (is c.card.statuses r.status) ++ status_name c.sheet.heads r.status
    ++ kind_told sheet c.sheet.heads r.status r.line r.kind

-- "the same `refused=` line", or a line for each reason
unfoldable pub why_printed : List ℕ → Answer Case → List ℕ
why_printed sheet x = or_refusal (λ c. joined (why_line sheet c) (reasons_in c)) x

-- "`clerk why` .. reads standard input as the desk program does, with the same input limit"
unfoldable pub why_output : List ℕ → List ℕ
why_output input = on_papers (λ sheet card event. why_printed sheet (read_case sheet card event)) input

-- CARD

-- `card` prints "the desk's card and nothing else"
unfoldable pub card_printed : Answer Case → List ℕ
card_printed x = or_refusal (λ c. (next c).card) x

-- for the whole input: `card` prints "the desk's card and nothing else"
unfoldable pub card_output : List ℕ → List ℕ
card_output input = on_papers (λ sheet card event. card_printed (read_case sheet card event)) input

-- OUTLOOK

-- the words of "first for each status `NAME=always`, `NAME=never` or `NAME=open` (yes in every pattern, in none, in some)"
abbrev pub prospect_word : Prospect → List ℕ
prospect_word always = text "always"
prospect_word never = text "never"
prospect_word still_open = text "open"

-- "first for each status `NAME=always`, `NAME=never` or `NAME=open` (yes in every pattern, in none, in some)", of the statuses from place x on
unfoldable pub prospect_lines : List ℕ → ℕ → List Name → List ℕ
prospect_lines ps x [] = []
prospect_lines ps x (n ∷ ns) = line n (prospect_word (prospect ps x)) ++ prospect_lines ps (suc x) ns

-- "the names of its statuses that are yes, one space between"
abbrev pub spaced : List Name → List ℕ
spaced [] = []
spaced (n ∷ ns) = n ++ joined (λ m. text " " ++ m) ns

-- "then each pattern as `outlook=` and the names of its statuses that are yes, one space between"
unfoldable pub pattern_line : List Name → ℕ → List ℕ
pattern_line ns p = line (text "outlook") (spaced (yes_names ns p))

-- all of it; "`outlook=refused` alone where MANY"
unfoldable pub prospects_told : List Name → Answer (List ℕ) → List ℕ
prospects_told ns (taken ps) = prospect_lines ps 0 ns ++ joined (pattern_line ns) ps
prospects_told ns (refused n p l) = outlook_lines (refused n p l)

-- "what may still come in names"
unfoldable pub outlook_printed : Answer Case → List ℕ
outlook_printed x = or_refusal (λ c. prospects_told (status_names (statuses c.sheet.heads)) (outlook c)) x

-- for the whole input: "what may still come in names"
unfoldable pub outlook_output : List ℕ → List ℕ
outlook_output input = on_papers (λ sheet card event. outlook_printed (read_case sheet card event)) input

-- CHECK

-- a line of a name and a count, such as "`fields=N`"
abbrev pub count_line : List ℕ → ℕ → List ℕ
count_line key n = line key (decimal n)

-- "Taken: lines `model=NAME`, `fields=N`, `events=N`, `stages=N`, `miles=N`, `rules=N`, `leaves=N`"
unfoldable pub sheet_told : Sheet → List ℕ
sheet_told sh =
    line (text "model") sh.heads.model
    ++ count_line (text "fields") (length sh.heads.fields)
    ++ count_line (text "events") (length sh.heads.events)
    ++ count_line (text "stages") (length sh.heads.stages)
    ++ count_line (text "miles") (length sh.heads.miles)
    ++ count_line (text "rules") (length sh.rules)
    ++ count_line (text "leaves") (length (leaves sh.rules))

-- "nodes as `+x` or `-x`"
unfoldable pub node_text : Heads → ℕ → List ℕ
node_text hd k = cond (rising k) (text "+") (text "-") ++ status_name hd (k / 2)

-- "for 7 behind it a circle, one line for each edge: `circle=FROM TO LINE`, nodes as `+x` or `-x`"
unfoldable pub circle_line : Sheet → Edge → List ℕ
circle_line sh e = line (text "circle") (node_text sh.heads e.from ++ text " " ++ node_text sh.heads e.to ++ text " " ++ decimal (edge_line sh e))

-- of a sheet in order, by its testing order: "for 7 behind it a circle, one line for each edge: `circle=FROM TO LINE`, nodes as `+x` or `-x`"
abbrev pub order_told : Sheet → Option (List ℕ) → List ℕ
order_told sh (some o) = sheet_told sh
order_told sh none = refusal_text CYCLE 1 0 ++ joined (circle_line sh) (around (circle sh))

-- "Refused: `refused=NUMBER 1 LINE`"
unfoldable pub check_printed : Answer Sheet → List ℕ
check_printed x = or_refusal (λ sh. order_told sh (testing_order sh)) x

-- `check` "reads a sheet alone": all of the input is the sheet
unfoldable pub check_output : List ℕ → List ℕ
check_output input = check_printed (paper 1 sheet_bytes sheet input)

-- BLANK

-- what a field holds that was never asked: "`?` in every field"
abbrev pub unasked : Entry
unasked = record { shown = text "?"; value = missing }

-- `blank` prints "a card with `?` in every field and no for every status"
unfoldable pub blank_card : Heads → List ℕ
blank_card hd = card_text hd (map (λ n. unasked) hd.fields) (map (λ s. false) (statuses hd))

-- the same of an accepted sheet, or its refusal
unfoldable pub blank_printed : Answer Accepted → List ℕ
blank_printed x = or_refusal (λ a. blank_card a.sheet.heads) x

-- for the whole input, which is the sheet: `blank` prints "a card with `?` in every field and no for every status"
unfoldable pub blank_output : List ℕ → List ℕ
blank_output input = blank_printed (read_sheet input)
