-- What document 01 demands and what the requests behind it ask, for all texts: each in its own words, each proved by a citation.
use Rattle.std.specs.Prelude.{ℕ, ◌*◌, ◌≤◌, ◌<◌, ◌≡◌, Bool, true, false, List, [], ◌∷◌, map, ◌↔◌, length, get_or}
use Rattle.std.proofs.Common.{sym, ◌∙◌, subst}
use Rattle.std.proofs.Math.Option.{some}
use Rattle.meaning.specs.Text.{In}
use Rattle.meaning.specs.Kleene.{true₃, known₃}
use Rattle.meaning.specs.Refusal.{taken, refused, CYCLE, MANY}
use Rattle.meaning.specs.Limits.{sheet_bytes, part_limit}
use Rattle.meaning.specs.Reading.{paper}
use Rattle.meaning.specs.Number.{Value, missing}
use Rattle.meaning.specs.Condition.{Cond, value_c}
use Rattle.meaning.specs.Sheet.{Sheet}
use Rattle.meaning.specs.ReadSheet.{sheet}
use Rattle.meaning.specs.Card.{is, read_card}
use Rattle.meaning.specs.Graph.{Cycle, Acyclic, Inside, TestingOrder}
use Rattle.meaning.specs.Tests.{nodes, down, Test, tests}
use Rattle.meaning.specs.Dependency.{sources, predecessors}
use Rattle.meaning.specs.Step.{Moment, put_in, Meets, holds, leads_to, pattern}
use Rattle.meaning.specs.Outlook.{IsOutlook, filled_with, parts, patterns}
use Rattle.meaning.specs.Why.{Reason, coded, lines_for, changed, IsWhy}
use Rattle.meaning.specs.Doors.{Accepted, read_sheet, Case, read_case, next, outlook, reasons_in, why, step_answer, outlook_answer, why_answer, replied, written, step_reply, step_space, outlook_reply, outlook_space}
use Rattle.theory.specs.Step.Edges.{home_cycle}
use Rattle.theory.specs.Step.OneAnswer.{one_next}
use Rattle.theory.specs.Reading.Readers.{taken_same}
use Rattle.theory.specs.Papers.Case.{sheet_holds, case_holds}
use Rattle.theory.specs.Why.All.{about, why_same}
use Rattle.theory.specs.Requests.Cases.{at, after, told_exactly, holds_true, case_meets, case_only, case_every, case_again, case_list, filled_meets, filled_only, outlook_told, outlook_listed, outlook_same, Known, outlook_known, case_why, case_one, case_lines, case_few}
use Rattle.theory.specs.Requests.Numbers.{step_tells, outlook_tells, why_tells}
use Rattle.theory.specs.Requests.Taken.{step_papers, outlook_papers}

-- DEMAND 1. "It takes any sheet, card and event line and comes to an end": the definitions are functions of any lists of bytes.
-- "What it can't take it refuses with a fixed number, the paper and the line, and the lent space is then untouched."

pub step_refused : (s c e lent : List ℕ) (n p l : ℕ) → step_answer s c e (length lent) ≡ refused n p l
    → (step_reply s c e (length lent) ≡ record { number = n; paper = p; line = l; count = 0; tasks = 0 }) × (step_space s c e lent ≡ lent)
unfolding step_reply step_space replied written
step_refused s c e lent n p l q = (rw q, rw q)

pub outlook_refused : (s c e lent : List ℕ) (n p l : ℕ) → outlook_answer s c e (length lent) ≡ refused n p l
    → (outlook_reply s c e (length lent) ≡ record { number = n; paper = p; line = l; count = 0; tasks = 0 }) × (outlook_space s c e lent ≡ lent)
unfolding outlook_reply outlook_space replied written
outlook_refused s c e lent n p l q = (rw q, rw q)

-- the step's numbers are 1 to 9, "it never gives MANY"
pub step_numbers : (s c e : List ℕ) (room n p l : ℕ) → step_answer s c e room ≡ refused n p l → (1 ≤ n) × (n ≤ 9) × (p ≤ 3)
step_numbers s c e room n p l q = (step_tells s c e room).told n p l q

pub outlook_numbers : (s c e : List ℕ) (room n p l : ℕ) → outlook_answer s c e room ≡ refused n p l → (1 ≤ n) × (n ≤ 10) × (p ≤ 3)
outlook_numbers s c e room n p l q = (outlook_tells s c e room).told n p l q

-- number, paper and line are those that the reading of the papers tells
pub papers_told : (s c e : List ℕ) (room n p l : ℕ) → read_case s c e ≡ refused n p l
    → (step_answer s c e room ≡ refused n p l) × (outlook_answer s c e room ≡ refused n p l)
papers_told s c e room n p l q = (step_papers s c e room n p l q, outlook_papers s c e room n p l q)

-- DEMAND 2. "A step is right by the published kernel rules."

-- "A sheet otherwise in order is refused for circular dependence exactly when its dependency graph has a cycle."
pub cycle_told : (s : List ℕ) (sh : Sheet) → paper 1 sheet_bytes sheet s ≡ taken sh → (read_sheet s ≡ refused CYCLE 1 0) ↔ Cycle (predecessors (tests sh))
cycle_told = told_exactly

-- "So a mile that has a `+` rule can't close its own home stage": a test with home p, and one of `-p` to which an edge leads from its node, make a cycle.
pub home_closed : (ts : List Test) (p : ℕ) (t u : Test) → In t ts → In u ts → t.home ≡ some p → u.node ≡ down p → In t.node (sources u)
    → Cycle (predecessors ts)
home_closed = home_cycle

-- For any list of tests whose graph has no cycle there is one next card, whatever form of sheet the tests come from.
pub next_one : (ts : List Test) (m : Moment) → Inside (length m.before * 2) (predecessors ts) → Acyclic (predecessors ts)
    → (side : List Bool) × Meets ts m side × ((c : List Bool) → Meets ts m c → c ≡ side) ×
    ((o : List ℕ) → TestingOrder (length m.before * 2) (predecessors ts) o → leads_to ts m o ≡ side)
next_one = one_next

-- "The card after a step meets the rules, no other card does, and every testing order that the graph allows leads to it."
pub record StepRight (k : Case) : Type 0 where
  pub meets : Meets (tests k.sheet) (at k) (after k)
  pub only : (side : List Bool) → Meets (tests k.sheet) (at k) side → side ≡ after k
  pub every : (o : List ℕ) → TestingOrder (nodes k.sheet.heads) (predecessors (tests k.sheet)) o → leads_to (tests k.sheet) (at k) o ≡ after k

pub step_right : (s c e : List ℕ) (k : Case) → read_case s c e ≡ taken k → StepRight k
step_right s c e k q = let p = case_holds s c e k q in record { meets = case_meets k p; only = case_only k p; every = case_every k p }

-- a testing order exists for each accepted sheet: the one that was found with it
pub order_right : (s : List ℕ) (a : Accepted) → read_sheet s ≡ taken a → TestingOrder (nodes a.sheet.heads) (predecessors (tests a.sheet)) a.order
order_right s a q = (sheet_holds s a q).1

-- "A rule counts only when its condition is true under Kleene's three-valued tables."
pub only_true : (m : Moment) (side : List Bool) (t : Test) (c : Cond) → t.condition ≡ some c → holds m side t ≡ true
    → value_c (λ x. known₃ (is side x)) (λ f. get_or m.values f missing) c ≡ true₃
only_true = holds_true

-- a step's result is again an accepted card
pub next_accepted : (s c e : List ℕ) (k : Case) → read_case s c e ≡ taken k
    → read_card k.sheet.heads (next k).card ≡ taken (record { entries = put_in k.happening.puts k.card.entries; statuses = after k })
next_accepted s c e k q = case_again k (case_holds s c e k q)

-- DEMAND 3. "Where the missing answers split into at most 4,096 combinations .., the outlook lists every pattern that the step gives for some choice of the
-- missing answers over their full range, each once, ascending, and nothing else."

pub outlook_right : (s c e : List ℕ) (k : Case) (list : List ℕ) → read_case s c e ≡ taken k → outlook k ≡ taken list → IsOutlook (tests k.sheet) (at k) list
outlook_right s c e k list q o = subst (IsOutlook (tests k.sheet) (at k)) (outlook_listed k list o) (case_list k (case_holds s c e k q))

-- for each case there is such a list
pub list_exists : (s c e : List ℕ) (k : Case) → read_case s c e ≡ taken k → (list : List ℕ) × IsOutlook (tests k.sheet) (at k) list
list_exists s c e k q = (patterns (tests k.sheet) k.order (at k), case_list k (case_holds s c e k q))

-- and it is the only such list
pub outlook_one : (ts : List Test) (m : Moment) (l h : List ℕ) → IsOutlook ts m l → IsOutlook ts m h → l ≡ h
outlook_one = outlook_same

-- "MANY is given exactly when the product of the parts over the `?` fields exceeds 4,096"
pub outlook_many : (k : Case) → (outlook k ≡ refused MANY 0 0) ↔ (part_limit < parts (tests k.sheet) 0 (at k).values)
outlook_many = outlook_told

-- "With no `?` it has one entry", and it is the step's own pattern
pub outlook_sure : (k : Case) → Known (at k).values → outlook k ≡ taken (pattern (after k) ∷ [])
outlook_sure = outlook_known

pub outlook_alone : (k : Case) (l : List ℕ) → outlook k ≡ taken l → Known (at k).values → l ≡ pattern (after k) ∷ []
outlook_alone k l o h = taken_same l (pattern (after k) ∷ []) (sym o ∙ outlook_sure k h)

-- "Each filling has one next pattern": some side meets the rules, and no other does
pub filling_one : (s c e : List ℕ) (k : Case) → read_case s c e ≡ taken k → (vs : List Value)
    → (side : List Bool) × Meets (tests k.sheet) (filled_with (at k) vs) side ×
    ((b : List Bool) → Meets (tests k.sheet) (filled_with (at k) vs) b → b ≡ side)
filling_one s c e k q vs =
    let p = case_holds s c e k q in
    let meets = filled_meets k p vs in
    (leads_to (tests k.sheet) (filled_with (at k) vs) k.order, meets, λ b h. filled_only k p vs b _ h meets)

-- REQUEST T-01. "For each status that changed, .. the first rule line that held, or, where no line held, the parent whose closing closed it. For each that did
-- not, every rule line for the change it could have made, with the first thing that stopped it"

pub why_right : (s c e : List ℕ) (k : Case) → read_case s c e ≡ taken k → IsWhy k.sheet (at k) (after k) (reasons_in k)
why_right s c e k q = case_why k (case_holds s c e k q)

-- and it is the only such list
pub why_one : (sh : Sheet) (m : Moment) (side : List Bool) (l h : List Reason) → IsWhy sh m side l → IsWhy sh m side h → map coded l ≡ map coded h
why_one = why_same

-- of a status that changed one reason, of another one for each of its lines
pub why_changed : (s c e : List ℕ) (k : Case) → read_case s c e ≡ taken k → (x : ℕ) → x < length (at k).before → changed k.sheet (at k) (after k) x ≡ true
    → length (about x (reasons_in k)) ≡ 1
why_changed s c e k q = case_one k (case_holds s c e k q)

pub why_lines : (s c e : List ℕ) (k : Case) → read_case s c e ≡ taken k → (x : ℕ) → x < length (at k).before → changed k.sheet (at k) (after k) x ≡ false
    → map (λ (r : Reason). r.line) (about x (reasons_in k)) ≡ map (λ (t : Test). t.line) (lines_for k.sheet (at k) (after k) x)
why_lines s c e k q = case_lines k (case_holds s c e k q)

-- "There are never more than rule lines and child stages together (128 + 31)"
pub why_most : (s c e : List ℕ) (k : Case) → read_case s c e ≡ taken k → length (why k) ≤ 159
why_most s c e k q = case_few k (case_holds s c e k q)

-- "Refusals: as for a step"
pub why_numbers : (s c e : List ℕ) (room n p l : ℕ) → why_answer s c e room ≡ refused n p l → (1 ≤ n) × (n ≤ 9) × (p ≤ 3)
why_numbers s c e room n p l q = (why_tells s c e room).told n p l q
