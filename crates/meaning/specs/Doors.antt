-- The three requests over the same three papers: what each returns, and what the lent space then holds.
use Rattle.std.specs.Prelude.{ℕ, Bool, true, false, cond, List, ◌++◌, map, length, drop, leb}
use Rattle.std.proofs.Math.Option.{Option, none, some}
use Rattle.meaning.specs.Refusal.{Answer, taken, refused, on_taken, ◌>>=◌, CYCLE, ROOM, MANY}
use Rattle.meaning.specs.Limits.{sheet_bytes}
use Rattle.meaning.specs.Reading.{paper}
use Rattle.meaning.specs.Sheet.{Heads, Sheet}
use Rattle.meaning.specs.ReadSheet.{sheet}
use Rattle.meaning.specs.Card.{Card, read_card, Happening, read_event}
use Rattle.meaning.specs.Tests.{tests}
use Rattle.meaning.specs.Dependency.{testing_order}
use Rattle.meaning.specs.Step.{moment, put_in, leads_to, started, pattern}
use Rattle.meaning.specs.Outlook.{many, patterns}
use Rattle.meaning.specs.Why.{Reason, coded, reasons}
use Rattle.meaning.specs.Write.{card_text}

-- a sheet that is accepted, with its testing order
pub record Accepted : Type 0 where
  pub sheet : Sheet
  pub order : List ℕ

-- "A sheet is accepted only if no path leads from a node to itself; a self-edge is such a path"
abbrev pub accepted : Sheet → Option (List ℕ) → Answer Accepted
accepted sh none = refused CYCLE 1 0
accepted sh (some o) = taken (record { sheet = sh; order = o })

-- the sheet as a paper: "Within a paper: LONG, then the first line at fault, then CYCLE or ORPHAN"
unfoldable pub read_sheet : List ℕ → Answer Accepted
read_sheet s = on_taken (paper 1 sheet_bytes sheet s) (λ sh. accepted sh (testing_order sh))

-- card and event line, read under a sheet: "Order: sheet, card, event, MANY, ROOM"
pub record Told : Type 0 where
  pub card : Card
  pub happening : Happening

-- "Order: sheet, card, event, MANY, ROOM": the second and the third; of the sheet they need only what stands above its rules
unfoldable pub read_told : Heads → List ℕ → List ℕ → Answer Told
read_told hd card event = do
  c ← read_card hd card
  h ← read_event hd event
  taken (record { card = c; happening = h })

-- the three papers, read
pub record Case : Type 0 where
  pub sheet : Sheet
  pub order : List ℕ
  pub card : Card
  pub happening : Happening

-- "Step and outlook are two requests over the same papers"; "Order: sheet, card, event, MANY, ROOM": the first three
unfoldable pub read_case : List ℕ → List ℕ → List ℕ → Answer Case
read_case sheet card event = do
  a ← read_sheet sheet
  t ← read_told a.sheet.heads card event
  taken (record { sheet = a.sheet; order = a.order; card = t.card; happening = t.happening })

-- "The step returns the next card and the tasks started, as a pattern (bits as in the outlook); it never gives MANY"; the tasks here as statuses, yes or no
-- for each stage
pub record Next : Type 0 where
  pub card : List ℕ
  pub tasks : List Bool

-- "The step returns the next card and the tasks started, as a pattern (bits as in the outlook); it never gives MANY"; "In the next card, a field's value text
-- is that of the event line if the event carries it, otherwise that of the card"
unfoldable pub next : Case → Next
next c =
    let after = leads_to (tests c.sheet) (moment c.card c.happening) c.order in
    record {
      card = card_text c.sheet.heads (put_in c.happening.puts c.card.entries) after;
      tasks = started c.sheet.heads.stages c.card.statuses after;
    }

-- "The outlook returns the list alone", or MANY
unfoldable pub outlook : Case → Answer (List ℕ)
outlook c =
    let m = moment c.card c.happening in
    elim (many (tests c.sheet) m) [ true ↦ refused MANY 0 0 | false ↦ taken (patterns (tests c.sheet) c.order m) ]

-- the reasons on the card after the step: "The list holds, ascending, .."
unfoldable pub reasons_in : Case → List Reason
reasons_in c =
    let m = moment c.card c.happening in
    reasons c.sheet m (leads_to (tests c.sheet) m c.order)

-- as numbers: "The list holds, ascending, .."
unfoldable pub why : Case → List ℕ
why c = map coded (reasons_in c)

-- "ROOM concerns only the result asked for": "next card or list longer than the space lent"
unfoldable pub fitting : {A : Type 0} → (A → List ℕ) → ℕ → A → Answer A
fitting out room a = cond (leb (length (out a)) room) (taken a) (refused ROOM 0 0)

-- "Step and outlook are two requests over the same papers"; "Order: sheet, card, event, MANY, ROOM", and the step "never gives MANY"
unfoldable pub step_answer : List ℕ → List ℕ → List ℕ → ℕ → Answer Next
step_answer sheet card event room = do
  c ← read_case sheet card event
  fitting (λ n. n.card) room (next c)

-- "Step and outlook are two requests over the same papers"; "Order: sheet, card, event, MANY, ROOM"
unfoldable pub outlook_answer : List ℕ → List ℕ → List ℕ → ℕ → Answer (List ℕ)
outlook_answer sheet card event room = do
  c ← read_case sheet card event
  l ← outlook c
  fitting (λ l. l) room l

-- "Refusals: as for a step"; ROOM is for the list
unfoldable pub why_answer : List ℕ → List ℕ → List ℕ → ℕ → Answer (List ℕ)
why_answer sheet card event room = do
  c ← read_case sheet card event
  fitting (λ l. l) room (why c)

-- The numbers returned: number, paper and line, how long the card or list is, and the tasks started, "as a pattern"
pub record Reply : Type 0 where
  pub number : ℕ
  pub paper : ℕ
  pub line : ℕ
  pub count : ℕ
  pub tasks : ℕ

-- "Taken gives paper 0 and line 0"; "Each refusal returns number, paper .. and line .., its other numbers are 0"
unfoldable pub replied : {A : Type 0} → (A → ℕ) → (A → ℕ) → Answer A → Reply
replied count tasks (taken a) = record { number = 0; paper = 0; line = 0; count = count a; tasks = tasks a }
replied count tasks (refused n p l) = record { number = n; paper = p; line = l; count = 0; tasks = 0 }

-- "Each refusal .. leaves lent space untouched"; "On success, space behind the written part is untouched"
unfoldable pub written : {A : Type 0} → (A → List ℕ) → List ℕ → Answer A → List ℕ
written out lent (taken a) = out a ++ drop (length (out a)) lent
written out lent (refused n p l) = lent

-- What the step returns: "The step returns the next card and the tasks started, as a pattern (bits as in the outlook); it never gives MANY"
unfoldable pub step_reply : List ℕ → List ℕ → List ℕ → ℕ → Reply
step_reply sheet card event room = replied (λ n. length n.card) (λ n. pattern n.tasks) (step_answer sheet card event room)

-- and what the space lent to it then holds
unfoldable pub step_space : List ℕ → List ℕ → List ℕ → List ℕ → List ℕ
step_space sheet card event lent = written (λ n. n.card) lent (step_answer sheet card event (length lent))

-- What the outlook returns: "The outlook returns the list alone"
unfoldable pub outlook_reply : List ℕ → List ℕ → List ℕ → ℕ → Reply
outlook_reply sheet card event room = replied (λ l. length l) (λ l. 0) (outlook_answer sheet card event room)

-- and what the space lent to it then holds
unfoldable pub outlook_space : List ℕ → List ℕ → List ℕ → List ℕ → List ℕ
outlook_space sheet card event lent = written (λ l. l) lent (outlook_answer sheet card event (length lent))

-- What `why` returns: "Refusals: as for a step"
unfoldable pub why_reply : List ℕ → List ℕ → List ℕ → ℕ → Reply
why_reply sheet card event room = replied (λ l. length l) (λ l. 0) (why_answer sheet card event room)

-- and what the space lent to it then holds: "Refusals: as for a step"
unfoldable pub why_space : List ℕ → List ℕ → List ℕ → List ℕ → List ℕ
why_space sheet card event lent = written (λ l. l) lent (why_answer sheet card event (length lent))
