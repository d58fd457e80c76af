-- WHAT DOCUMENT 01 DEMANDS, and what the requests behind it do, proved of the code. `Stepped s c e lent r out` (in `Calls`) is a call of `step` on the papers
-- s, c, e and the space `lent`, with the reply r and the space left as `out`, as far as the function DECLARES it in its contract; `Looked` likewise of
-- `outlook`, `Asked` of `why`; `Desked` (in `Outputs`) of the function behind `./desk`, `Checked`, `Blanked` and `Named` of those behind `./clerk check`,
-- `blank` and `outlook`. The other words are those of `meaning`.
use Prim.Native.Nat.{ℕ, ◌≤◌, ◌<◌}
use mathlib.Core.Path.{◌≡◌, sym, ◌∙◌, ap}
use mathlib.Core.Bool.{Bool, true, false}
use mathlib.Core.List.{List, [], ◌∷◌, ◌++◌, map}
use mathlib.Core.Option.{some}
use mathlib.Core.Logic.Iff
use mathlib.Core.Logic.{◌↔◌}
use native.Mathlib.Omega.{arith}
use lib.ListN.{length, get_or, take, drop}
use Rattle.meaning.specs.Text.{text, In, keep, joined, from}
use Rattle.meaning.specs.Kleene.{true₃, known₃}
use Rattle.meaning.specs.Refusal.{Answer, taken, refused, CYCLE, ROOM, MANY}
use Rattle.meaning.specs.Limits.{sheet_bytes, part_limit}
use Rattle.meaning.specs.Reading.{paper}
use Rattle.meaning.specs.Name.{Name}
use Rattle.meaning.specs.Number.{Value, missing, decimal}
use Rattle.meaning.specs.Condition.{Cond, value_c}
use Rattle.meaning.specs.Sheet.{Sheet, status_names, statuses}
use Rattle.meaning.specs.ReadSheet.{sheet}
use Rattle.meaning.specs.Card.{is, read_card}
use Rattle.meaning.specs.Graph.{Path, Cycle, TestingOrder}
use Rattle.meaning.specs.Tests.{nodes, Test, tests}
use Rattle.meaning.specs.Dependency.{predecessors}
use Rattle.meaning.specs.Circle.{Edge, around, IsCircle, ToldOn, circle, edge_line}
use Rattle.meaning.specs.Step.{Moment, Meets, holds, put_in, leads_to, pattern}
use Rattle.meaning.specs.Outlook.{IsOutlook, filled_with, parts, cuts, is_cut}
use Rattle.meaning.specs.Prospect.{Prospect, yes_in, Means, prospect, yes_names}
use Rattle.meaning.specs.Why.{Reason, coded, lines_for, changed, IsWhy}
use Rattle.meaning.specs.Write.{line}
use Rattle.meaning.specs.Doors.{Accepted, read_sheet, Case, read_case, next, reasons_in, why, step_answer, outlook_answer, why_answer}
use Rattle.meaning.specs.Desk.{refusal_text}
use Rattle.meaning.specs.Clerk.{sheet_told, circle_line, unasked, prospects_told}
use Rattle.theory.specs.Papers.Case.{case_holds}
use Rattle.theory.specs.Requests.Cases.{at, after, Known}
use Rattle.theory.specs.Graphs.Circles.{circle_cycle, circle_path}
use Rattle.theory.specs.Clerk.Checks as Checks
use Rattle.theory.specs.Clerk.Blank as Blank
use Rattle.theory.specs.Clerk.Prospects as Prospects
use Rattle.theory.specs.Why.All.{about}
use Rattle.theory.specs.Requests.Taken as Requests
use Rattle.theory.specs.Demands as Theory
use Rattle.reply.specs.declared.Reply.{Reply}
use Rattle.reply.specs.Answers.{refused_reply}
use Rattle.reambodkin.proofs.Script.{told_back, told_exactly, taken_number, list_given}
use Rattle.reambodkin.proofs.Calls.{InOrder, StepKeeps, OutlookKeeps, WhyKeeps, step_keeps, outlook_keeps, why_keeps, Stepped, Looked, Asked, stepped, looked, asked, step_refused, outlook_refused, why_refused, step_took, outlook_took, why_took}
use Rattle.reambodkin.proofs.Desk.{desk_for, desk_refused, desk_shown}
use Rattle.reambodkin.proofs.Outputs as Outputs
use Rattle.reambodkin.proofs.Outputs.{DeskKeeps, WordsKeep, Desked, Checked, Blanked, Named, desked, checked, named, checked_circle, checked_counts, blanked_card, Holds, printed_for, door_listed, many_told}

-- DEMAND 1. "It takes any sheet, card and event line and comes to an end": for whatever arguments, the code of each door ends, and keeps what it declares.
pub doors_keep : {M : Type 1} → StepKeeps M × OutlookKeeps M × WhyKeeps M
doors_keep = (step_keeps, outlook_keeps, why_keeps)

-- "What it can't take it refuses with a fixed number, the paper and the line, and the lent space is then untouched."
pub record Refused {A : Type 0} (most : ℕ) (told : Answer A) (lent : List ℕ) (r : Reply) (out : List ℕ) : Type 0 where
  pub as_told : told ≡ refused r.number r.paper r.line
  pub fixed : (r.number ≤ most) × (r.paper ≤ 3)
  pub others : (r.count ≡ 0) × (r.tasks ≡ 0)
  pub untouched : out ≡ lent

-- DEMAND 2. "The card after a step meets the rules, no other card does, and every testing order that the graph allows leads to it."
pub record Right (s c e lent : List ℕ) (r : Reply) (out : List ℕ) : Type 0 where
  pub case : Case
  pub read : read_case s c e ≡ taken case
  pub places : (r.paper ≡ 0) × (r.line ≡ 0)
  pub card : (take r.count out ≡ (next case).card) × (r.count ≡ length (next case).card)
  pub behind : drop r.count out ≡ drop r.count lent
  pub again : read_card case.sheet.heads (next case).card
      ≡ taken (record { entries = put_in case.happening.puts case.card.entries; statuses = after case })
  pub meets : Meets (tests case.sheet) (at case) (after case)
  pub only : (side : List Bool) → Meets (tests case.sheet) (at case) side → side ≡ after case
  pub every : (o : List ℕ) → TestingOrder (nodes case.sheet.heads) (predecessors (tests case.sheet)) o
      → leads_to (tests case.sheet) (at case) o ≡ after case
  pub tasks : r.tasks ≡ pattern (next case).tasks

-- DEMAND 3. ".. the outlook lists every pattern that the step gives for some choice of the missing answers over their full range, each once, ascending, and
-- nothing else."
pub record Listed (s c e lent : List ℕ) (r : Reply) (out : List ℕ) : Type 0 where
  pub case : Case
  pub read : read_case s c e ≡ taken case
  pub places : (r.paper ≡ 0) × (r.line ≡ 0) × (r.tasks ≡ 0)
  pub list : IsOutlook (tests case.sheet) (at case) (take r.count out)
  pub only : (l : List ℕ) → IsOutlook (tests case.sheet) (at case) l → l ≡ take r.count out
  pub count : r.count ≡ length (take r.count out)
  pub behind : drop r.count out ≡ drop r.count lent
  pub sure : Known (at case).values → take r.count out ≡ pattern (after case) ∷ []

module _ {s c e lent : List ℕ} {r : Reply} {out : List ℕ} (done : Stepped s c e lent r out) where
  pub step_refuses : (r.number ≡ 0 → ⊥) → Refused 9 (step_answer s c e (length lent)) lent r out
  step_refuses z = let (t, f, n, k, u) = step_refused done z in record { as_told = t; fixed = f; others = (n, k); untouched = u }

  -- papers that are taken give a step, and ROOM exactly when the next card is longer than the space
  pub step_room : (k : Case) → read_case s c e ≡ taken k
      → (length (next k).card ≤ length lent → r.number ≡ 0) × ((r ≡ refused_reply ROOM 0 0) ↔ (length lent < length (next k).card))
  step_room k q = (
    λ h. taken_number (stepped done) (next k) (Requests.step_taken s c e (length lent) k q h),
    Iff.trans (told_exactly (stepped done) ROOM 0 0 tt)
        (Requests.step_fits s c e (length lent) k q),
  )

  -- "A sheet otherwise in order is refused for circular dependence exactly when its dependency graph has a cycle."
  pub step_cycle : (sh : Sheet) → InOrder s sh → (r ≡ refused_reply CYCLE 1 0) ↔ Cycle (predecessors (tests sh))
  step_cycle sh q = Iff.trans (told_exactly (stepped done) CYCLE 1 0 tt) (Requests.step_circle s c e (length lent) sh q)

  pub step_right : r.number ≡ 0 → Right s c e lent r out
  step_right z = let (k, q, g) = step_took done z in
      record {
        case = k;
        read = q;
        places = (g.number.1, g.number.2);
        card = (g.front, g.count);
        behind = g.behind;
        again = Theory.next_accepted s c e k q;
        meets = (Theory.step_right s c e k q).meets;
        only = (Theory.step_right s c e k q).only;
        every = (Theory.step_right s c e k q).every;
        tasks = g.tells;
      }

-- a testing order exists for each accepted sheet
pub order_exists : (s : List ℕ) (a : Accepted) → read_sheet s ≡ taken a → TestingOrder (nodes a.sheet.heads) (predecessors (tests a.sheet)) a.order
order_exists = Theory.order_right

-- "A rule counts only when its condition is true under Kleene's three-valued tables."
pub only_true : (m : Moment) (side : List Bool) (t : Test) (c : Cond) → t.condition ≡ some c → holds m side t ≡ true
    → value_c (λ x. known₃ (is side x)) (λ f. get_or m.values f missing) c ≡ true₃
only_true = Theory.only_true

module _ {s c e lent : List ℕ} {r : Reply} {out : List ℕ} (done : Looked s c e lent r out) where
  pub outlook_refuses : (r.number ≡ 0 → ⊥) → Refused 10 (outlook_answer s c e (length lent)) lent r out
  outlook_refuses z = let (t, f, n, k, u) = outlook_refused done z in record { as_told = t; fixed = f; others = (n, k); untouched = u }

  pub outlook_cycle : (sh : Sheet) → InOrder s sh → (r ≡ refused_reply CYCLE 1 0) ↔ Cycle (predecessors (tests sh))
  outlook_cycle sh q = Iff.trans (told_exactly (looked done) CYCLE 1 0 tt) (Requests.outlook_circle s c e (length lent) sh q)

  -- "MANY is given exactly when the product of the parts over the `?` fields exceeds 4,096"
  pub outlook_many : (k : Case) → read_case s c e ≡ taken k → (r ≡ refused_reply MANY 0 0) ↔ (part_limit < parts (tests k.sheet) 0 (at k).values)
  outlook_many k q = Iff.trans (told_exactly (looked done) MANY 0 0 tt) (Requests.outlook_many s c e (length lent) k q)

  -- "Where the missing answers split into at most 4,096 combinations and the list has room", it is given; ROOM exactly when it has none
  pub outlook_given : (k : Case) (list : List ℕ) → read_case s c e ≡ taken k → parts (tests k.sheet) 0 (at k).values ≤ part_limit
      → IsOutlook (tests k.sheet) (at k) list
      → (length list ≤ length lent → (r.number ≡ 0) × (take r.count out ≡ list)) × ((r ≡ refused_reply ROOM 0 0) ↔ (length lent < length list))
  outlook_given k list q few is = (
    λ h. list_given (looked done) list (Requests.outlook_taken s c e (length lent) k list q few is h),
    Iff.trans (told_exactly (looked done) ROOM 0 0 tt)
        (Requests.outlook_fits s c e (length lent) k list q few is),
  )

  pub outlook_right : r.number ≡ 0 → Listed s c e lent r out
  outlook_right z = let (k, q, g, t, v) = outlook_took done z in
      record {
        case = k;
        read = q;
        places = (g.number.1, g.number.2, g.tells);
        list = t;
        only = λ l h. Theory.outlook_one (tests k.sheet) (at k) l
            (take r.count out) h t;
        count = g.count;
        behind = g.behind;
        sure = v;
      }

-- for each case there is such a list
pub list_exists : (s c e : List ℕ) (k : Case) → read_case s c e ≡ taken k → (list : List ℕ) × IsOutlook (tests k.sheet) (at k) list
list_exists = Theory.list_exists

-- "Each filling has one next pattern": some side meets the rules, and no other does
pub filling_one : (s c e : List ℕ) (k : Case) → read_case s c e ≡ taken k → (vs : List Value)
    → (side : List Bool) × Meets (tests k.sheet) (filled_with (at k) vs) side
    × ((b : List Bool) → Meets (tests k.sheet) (filled_with (at k) vs) b → b ≡ side)
filling_one = Theory.filling_one

-- the cuts that the parts count are the document's, each once
pub cuts_right : (ts : List Test) (f : ℕ)
    → ((v : ℕ) → In v (cuts ts f) ↔ (is_cut ts f v ≡ true)) × ((i j : ℕ) → i < j → j < length (cuts ts f) → get_or (cuts ts f) i 0 < get_or (cuts ts f) j 0)
cuts_right = Requests.cuts_right

-- REQUEST T-01. "For each status that changed, .. the first rule line that held, or, where no line held, the parent whose closing closed it. For each that did
-- not, every rule line for the change it could have made, with the first thing that stopped it." What each reason says of the card that the step writes is
-- `Says` in `meaning`: "the named rule holds and none earlier does, or the named part fails and those before it don't".
pub record Explained (s c e lent : List ℕ) (r : Reply) (out : List ℕ) : Type 0 where
  pub case : Case
  pub read : read_case s c e ≡ taken case
  pub places : (r.paper ≡ 0) × (r.line ≡ 0) × (r.tasks ≡ 0)
  pub list : List Reason
  pub told : (take r.count out ≡ map coded list) × (r.count ≡ length (map coded list))
  pub right : IsWhy case.sheet (at case) (after case) list
  pub only : (l : List Reason) → IsWhy case.sheet (at case) (after case) l → map coded l ≡ take r.count out
  -- a status that changed has exactly one reason, any other one for each line of its direction, in their order, and no more
  pub changed_one : (x : ℕ) → x < length (at case).before → changed case.sheet (at case) (after case) x ≡ true → length (about x list) ≡ 1
  pub line_one : (x : ℕ) → x < length (at case).before → changed case.sheet (at case) (after case) x ≡ false
      → map (λ (q : Reason). q.line) (about x list) ≡ map (λ (t : Test). t.line) (lines_for case.sheet (at case) (after case) x)
  pub behind : drop r.count out ≡ drop r.count lent

module _ {s c e lent : List ℕ} {r : Reply} {out : List ℕ} (done : Asked s c e lent r out) where
  pub why_refuses : (r.number ≡ 0 → ⊥) → Refused 9 (why_answer s c e (length lent)) lent r out
  why_refuses z = let (t, f, n, k, u) = why_refused done z in record { as_told = t; fixed = f; others = (n, k); untouched = u }

  -- "Refusals: as for a step": where papers are refused, both calls tell the same
  pub why_as_step : {room : List ℕ} {q : Reply} {left : List ℕ} → Stepped s c e room q left → (n p l : ℕ) → read_case s c e ≡ refused n p l
      → (r ≡ refused_reply n p l) × (q ≡ refused_reply n p l)
  why_as_step step n p l h = let (a, b) = Requests.why_refusal s c e _ _ n p l h in ((told_back (asked done) n p l a).0, (told_back (stepped step) n p l b).0)

  pub why_cycle : (sh : Sheet) → InOrder s sh → (r ≡ refused_reply CYCLE 1 0) ↔ Cycle (predecessors (tests sh))
  why_cycle sh q = Iff.trans (told_exactly (asked done) CYCLE 1 0 tt) (Requests.why_circle s c e (length lent) sh q)

  -- papers that are taken give the reasons, and ROOM exactly when there are more of them than places
  pub why_room_lem : (k : Case) → read_case s c e ≡ taken k
      → (length (why k) ≤ length lent → r.number ≡ 0) × ((r ≡ refused_reply ROOM 0 0) ↔ (length lent < length (why k)))
  why_room_lem k q = (
    λ h. taken_number (asked done) (why k) (Requests.why_taken s c e (length lent) k q h),
    Iff.trans (told_exactly (asked done) ROOM 0 0 tt)
        (Requests.why_fits s c e (length lent) k q),
  )

  -- "There are never more than rule lines and child stages together (128 + 31)": with so many places it is never ROOM
  pub why_enough : (k : Case) → read_case s c e ≡ taken k → 159 ≤ length lent → r.number ≡ 0
  why_enough k q h = (why_room_lem k q).0 (omega (arith, Theory.why_most s c e k q))

  pub why_right : r.number ≡ 0 → Explained s c e lent r out
  why_right z = let (k, q, g) = why_took done z in
      record {
        case = k;
        read = q;
        places = (g.number.1, g.number.2, g.tells);
        list = reasons_in k;
        told = (
          g.front,
          g.count,
        );
        right = Theory.why_right s c e k q;
        only = λ l h. Theory.why_one k.sheet (at k) (after k) l (reasons_in k) h (Theory.why_right s c e k
            q) ∙ sym g.front;
        changed_one = Theory.why_changed s c e k q;
        line_one = Theory.why_lines s c e k q;
        behind = g.behind;
      }

-- THE DESK. "It prints `refused=NUMBER PAPER LINE`, or the next card, a line `start=NAME` for each task, and a line `outlook=PATTERN` for each pattern, or
-- `outlook=refused` if MANY": all of it is what `step` and `outlook` return for the same papers, with room enough.
pub record Shown (s c e : List ℕ) (r : Reply) (card : List ℕ) (l : Reply) (list printed : List ℕ) : Type 0 where
  pub case : Case
  pub read : read_case s c e ≡ taken case
  pub lines : List ℕ
  -- the card that `step` wrote, a line for each task bit of its reply, and the lines of the outlook
  pub told : printed ≡ take r.count card ++ joined (line (text "start")) (yes_names (status_names case.sheet.heads.stages) r.tasks) ++ lines
  -- these: a line for each number that `outlook` wrote, or that it is refused where its reply has MANY
  pub listed : l.number ≡ 0 → lines ≡ joined (λ p. line (text "outlook") (decimal p)) (take l.count list)
  pub many : (l.number ≡ 0 → ⊥) → (l ≡ refused_reply MANY 0 0) × (lines ≡ line (text "outlook") (text "refused"))

module _ {input lent : List ℕ} {n : ℕ} {out : List ℕ} (done : Desked input lent n out) {s c e : List ℕ} (papers : Holds input s c e)
    {room card : List ℕ} {r : Reply} (step : Stepped s c e room r card) (fits : r.number ≡ ROOM → ⊥) {space list : List ℕ} {l : Reply}
    (look : Looked s c e space l list) (holds : l.number ≡ ROOM → ⊥) where
  pub desk_prints : ((r.number ≡ 0 → ⊥) → take n out ≡ refusal_text r.number r.paper r.line) × (r.number ≡ 0 → Shown s c e r card l list (take n out))
  desk_prints = (λ z. desked done ∙ desk_for papers ∙ desk_refused step fits z, shown)
    where
      shown : r.number ≡ 0 → Shown s c e r card l list (take n out)
      shown z =
          let (k, q, w, t, y, x) = desk_shown step z look holds in record {
            case = k;
            read = q;
            lines = w;
            told = desked done ∙ desk_for papers
                ∙ t;
            listed = y;
            many = x;
          }

-- the desk's function ends and keeps what it declares, for whatever input
pub desk_keeps : {M : Type 1} → DeskKeeps M
desk_keeps = Outputs.desk_keeps

-- FOR THE PEOPLE AT THE DESK. The functions behind the clerk's words end and keep what they declare, for whatever input.
pub words_keep : {M : Type 1} → WordsKeep M
words_keep = Outputs.words_keep

-- FOR THE SHEET WRITER. `Checked s lent n out` is a call on the sheet s and the space `lent` that told the length n and left the space as `out`, so `take n
-- out` is what is printed. "a circle, one line for each edge: .. each TO the next line's FROM, the last TO the first FROM, no node twice"; "it is a path of the
-- graph from a node to itself"
pub record Circled (sh : Sheet) (printed : List ℕ) : Type 0 where
  pub nodes : List ℕ
  pub told : printed ≡ refusal_text CYCLE 1 0 ++ joined (circle_line sh) (around nodes)
  pub circle : IsCircle (predecessors (tests sh)) nodes
  pub path : (k : ℕ) → In k nodes → Path (predecessors (tests sh)) k k
  -- "LINE is the first rule line that gives this edge; where none does (the closing of a child), the child's `stage=` line"
  pub lines : (e : Edge) → In e (around nodes) → ToldOn sh e (edge_line sh e)

module _ {s lent : List ℕ} {n : ℕ} {out : List ℕ} (done : Checked s lent n out) where
  -- "it is told exactly when CYCLE is": exactly when the graph of the sheet has a cycle; a sheet without one is told by its counts
  pub check_circle : (sh : Sheet) → InOrder s sh
      → (Circled sh (take n out) ↔ Cycle (predecessors (tests sh))) × ((Cycle (predecessors (tests sh)) → ⊥) → take n out ≡ sheet_told sh)
  check_circle sh q = ((λ c. circle_cycle _ c.nodes c.circle, λ c. circled (checked_circle done sh q c)), checked_counts done sh q)
    where
      circled : (take n out ≡ refusal_text CYCLE 1 0 ++ joined (circle_line sh) (around (circle sh))) × IsCircle (predecessors (tests sh)) (circle sh)
          × ((e : Edge) → In e (around (circle sh)) → ToldOn sh e (edge_line sh e)) → Circled sh (take n out)
      circled (t, c, l) = record { nodes = circle sh; told = t; circle = c; path = circle_path _ (circle sh) c; lines = l }

  -- and so exactly when the step tells it
  pub check_as_step : {c e room : List ℕ} {r : Reply} {left : List ℕ} → Stepped s c e room r left → (sh : Sheet) → InOrder s sh
      → Circled sh (take n out) ↔ (r ≡ refused_reply CYCLE 1 0)
  check_as_step step sh q = Iff.trans (check_circle sh q).0 (Iff.symm (step_cycle step sh q))

  -- "Refused: `refused=NUMBER 1 LINE`"
  pub check_refuses : (m p l : ℕ) → paper 1 sheet_bytes sheet s ≡ refused m p l → take n out ≡ refusal_text m p l
  check_refuses m p l q = checked done ∙ Checks.check_refused s m p l q

-- "a card with `?` in every field and no for every status; proved to be accepted"
pub blank_accepted : {s lent : List ℕ} {n : ℕ} {out : List ℕ} → Blanked s lent n out → (a : Accepted) → read_sheet s ≡ taken a
    → read_card a.sheet.heads (take n out) ≡ taken (record {
      entries = map (λ f. unasked) a.sheet.heads.fields;
      statuses = map (λ x. false)
          (statuses a.sheet.heads);
    })
blank_accepted {s} done a q = rw (blanked_card done a q) (Blank.blank_accepted s a q)

-- FOR CLERK AND PACKING LEAD. "first for each status `NAME=always`, `NAME=never` or `NAME=open` (yes in every pattern, in none, in some), then each pattern as
-- `outlook=` and the names of its statuses that are yes"; "Proved from the list that the door gives".
pub record Foretold (s c e list printed : List ℕ) : Type 0 where
  pub case : Case
  pub read : read_case s c e ≡ taken case
  pub told : printed ≡ prospects_told (status_names (statuses case.sheet.heads)) (taken list)
  -- the word of each status is meant of all patterns that some filling gives, and no other word is
  pub means : (x : ℕ) → Means (tests case.sheet) (at case) x (prospect list x)
  pub only : (x : ℕ) (w : Prospect) → Means (tests case.sheet) (at case) x w → w ≡ prospect list x

module _ {input lent : List ℕ} {n : ℕ} {out : List ℕ} (done : Named input lent n out) {s c e room list : List ℕ} {r : Reply} (door : Looked s c e room r list)
    (papers : Holds input s c e) where
  pub outlook_named : r.number ≡ 0 → Foretold s c e (take r.count list) (take n out)
  outlook_named z = let (k, q, o) = door_listed door z in
      record {
        case = k;
        read = q;
        told = named done ∙ printed_for papers k q ∙ ap
            (prospects_told (status_names (statuses k.sheet.heads))) o;
        means = λ x. (Prospects.case_prospect k
            (case_holds s c e k q) _ o x).0;
        only = λ x. (Prospects.case_prospect k (case_holds s c e k q) _ o x).1;
      }

  -- "`outlook=refused` alone where MANY"
  pub outlook_unnamed : (k : Case) → read_case s c e ≡ taken k → r ≡ refused_reply MANY 0 0 → take n out ≡ line (text "outlook") (text "refused")
  outlook_unnamed k q m = named done ∙ printed_for papers k q ∙ many_told k ((outlook_many door k q).0 m)

-- "the names of its statuses that are yes": a bit of a pattern is a status of its side, and those named are those that are yes, in order
pub names_yes : (names : List Name) (side : List Bool)
    → ((x : ℕ) → yes_in x (pattern side) ≡ is side x) × (yes_names names (pattern side) ≡ map (λ x. get_or names x []) (keep (is side) (from 0 (length names))))
names_yes names side = (Prospects.yes_pattern side, Prospects.named_side names side)
