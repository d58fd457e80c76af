-- A case that was taken: its step, its next card, its outlook and its reasons, from what is known of its papers.
use Rattle.std.specs.Prelude.{ℕ, suc, ◌*◌, ◌≤◌, ◌<◌, ◌≡◌, refl, Bool, true, false, List, [], ◌∷◌, map, ◌↔◌, length, get_or}
use Rattle.std.proofs.Common.{sym, ◌∙◌, arith, lt-ltb, le-ltb, ltb-true}
use Rattle.std.proofs.Math.Path.{ap}
use Rattle.std.proofs.lemmas.Bool.{false≢true}
use Rattle.std.proofs.Math.Option.{Option, none, some}
use Rattle.std.proofs.Math.ListN.{length-map}
use Rattle.meaning.specs.Text.{In, joined}
use Rattle.meaning.specs.Kleene.{Kleene, true₃, false₃, unknown, known₃, is_true}
use Rattle.meaning.specs.Refusal.{Answer, taken, refused, CYCLE, MANY}
use Rattle.meaning.specs.Limits.{sheet_bytes, part_limit}
use Rattle.meaning.specs.Reading.{paper}
use Rattle.meaning.specs.Number.{Value, missing, number_at}
use Rattle.meaning.specs.Condition.{Cond, value_c}
use Rattle.meaning.specs.Sheet.{Sheet, statuses}
use Rattle.meaning.specs.ReadSheet.{sheet}
use Rattle.meaning.specs.Card.{is, read_card}
use Rattle.meaning.specs.Graph.{Cycle, Inside, TestingOrder}
use Rattle.meaning.specs.Tests.{nodes, Test, tests}
use Rattle.meaning.specs.Dependency.{predecessors, testing_order}
use Rattle.meaning.specs.Step.{Moment, moment, put_in, fulfilled, holds, Meets, leads_to, pattern}
use Rattle.meaning.specs.Outlook.{IsOutlook, filled_with, insert, ascending, parts, many, tried, choices, patterns}
use Rattle.meaning.specs.Why.{Reason, lines_for, changed, IsWhy}
use Rattle.meaning.specs.Doors.{accepted, read_sheet, Case, next, outlook, reasons_in, why}
use Rattle.theory.specs.Lists.Ascending.{up_from, up_equal}
use Rattle.theory.specs.Graphs.Orders.{cycle_exactly}
use Rattle.theory.specs.Step.OneAnswer.{leads_meets, one_side, any_order}
use Rattle.theory.specs.Step.Shelter.{stays_sheltered}
use Rattle.theory.specs.Outlook.List.{is_outlook}
use Rattle.theory.specs.Reading.Readers.{refused_taken, taken_same, paper_holds}
use Rattle.theory.specs.Papers.Formed.{Well}
use Rattle.theory.specs.Papers.Sheets.{sheet_well}
use Rattle.theory.specs.Step.Tests.{holds_parts}
use Rattle.theory.specs.Step.SheetTests.{stages_few, sheet_inside, sheet_guards}
use Rattle.theory.specs.Papers.Case.{Papers}
use Rattle.theory.specs.Why.All.{ReadBack, read_back, about, reasons_right, reasons_in_lem, reasons_few, one_reason, each_line}
use Rattle.theory.specs.Writing.ReadBack as Again

-- the moment of a case, and the side to which its testing order leads
abbrev pub at : Case → Moment
at k = moment k.card k.happening

abbrev pub after : Case → List Bool
after k = leads_to (tests k.sheet) (at k) k.order

-- of a sheet whose lines are in order, CYCLE is told exactly when its graph has a cycle
pub told_exactly : (s : List ℕ) (sh : Sheet) → paper 1 sheet_bytes sheet s ≡ taken sh → (read_sheet s ≡ refused CYCLE 1 0) ↔ Cycle (predecessors (tests sh))
unfolding read_sheet testing_order
told_exactly s sh e = (λ t. c.0 (told (testing_order sh) (rw e at t)), λ p. rw (e, c.1 p))
  where
    c : (testing_order sh ≡ none) ↔ Cycle (predecessors (tests sh))
    c = cycle_exactly (nodes sh.heads) (predecessors (tests sh)) (sheet_inside sh (paper_holds Well 1 sheet_bytes sheet s sheet_well sh e))

    told : (o : Option (List ℕ)) → accepted sh o ≡ refused CYCLE 1 0 → o ≡ none
    told none q = refl
    told (some o) q = absurd (refused_taken CYCLE 1 0 (record { sheet = sh; order = o }) (sym q))

-- only true is true
is_true_lem : (v : Kleene) → is_true v ≡ true → v ≡ true₃
is_true_lem true₃ e = refl
is_true_lem false₃ e = absurd (false≢true e)
is_true_lem unknown e = absurd (false≢true e)

-- a test that holds has a true condition, where it has one
pub holds_true : (m : Moment) (side : List Bool) (t : Test) (c : Cond) → t.condition ≡ some c → holds m side t ≡ true
    → value_c (λ x. known₃ (is side x)) (λ f. get_or m.values f missing) c ≡ true₃
unfolding fulfilled
holds_true m side t c e h = is_true_lem _ (rw e at (holds_parts m side t h).condition)

-- Of a case whose papers were taken
module _ (k : Case) (p : Papers k) where
  -- with two nodes for each status of its card
  nodes_marked : nodes k.sheet.heads ≡ length (at k).before * 2
  unfolding moment nodes
  nodes_marked = ap (λ n. n * 2) (sym p.marked)

  order_marked : (o : List ℕ) → TestingOrder (nodes k.sheet.heads) (predecessors (tests k.sheet)) o
      → TestingOrder (length (at k).before * 2) (predecessors (tests k.sheet)) o
  order_marked o t = rw nodes_marked at t

  inside_marked : Inside (length (at k).before * 2) (predecessors (tests k.sheet))
  inside_marked = rw nodes_marked at (sheet_inside k.sheet p.well)

  -- of any values that are put in, the side meets the rules, and no other does
  module _ (vs : List Value) where
    pub filled_meets : Meets (tests k.sheet) (filled_with (at k) vs) (leads_to (tests k.sheet) (filled_with (at k) vs) k.order)
    unfolding filled_with
    filled_meets = leads_meets (tests k.sheet) (filled_with (at k) vs) k.order (order_marked k.order p.order)

    pub filled_only : (a b : List Bool) → Meets (tests k.sheet) (filled_with (at k) vs) a → Meets (tests k.sheet) (filled_with (at k) vs) b → a ≡ b
    unfolding filled_with
    filled_only = one_side (tests k.sheet) (filled_with (at k) vs) inside_marked k.order (order_marked k.order p.order)

  -- the side meets the rules,
  pub case_meets : Meets (tests k.sheet) (at k) (after k)
  unfolding filled_with
  case_meets = filled_meets (at k).values

  -- no other does,
  pub case_only : (side : List Bool) → Meets (tests k.sheet) (at k) side → side ≡ after k
  unfolding filled_with
  case_only side h = filled_only (at k).values side (after k) h case_meets

  -- and every testing order leads to it
  pub case_every : (o : List ℕ) → TestingOrder (nodes k.sheet.heads) (predecessors (tests k.sheet)) o → leads_to (tests k.sheet) (at k) o ≡ after k
  case_every o t = any_order (tests k.sheet) (at k) inside_marked o k.order (order_marked o t) (order_marked k.order p.order)

  -- the next card is an accepted card of the sheet
  pub case_again : read_card k.sheet.heads (next k).card ≡ taken (record { entries = put_in k.happening.puts k.card.entries; statuses = after k })
  unfolding next moment
  case_again = Again.next_accepted k p (after k) (case_meets.long ∙ p.marked)
      (stays_sheltered k.sheet.heads.stages (tests k.sheet) (sheet_guards k.sheet) (at k) (after k)
      (omega (arith, stages_few k.sheet p.well, p.marked)) p.sheltered case_meets)

  -- the list that is computed is the outlook
  pub case_list : IsOutlook (tests k.sheet) (at k) (patterns (tests k.sheet) k.order (at k))
  case_list = is_outlook (tests k.sheet) (at k) inside_marked k.order (order_marked k.order p.order)

  -- the reasons that are computed are those that are meant,
  pub case_why : IsWhy k.sheet (at k) (after k) (reasons_in k)
  unfolding reasons_in
  case_why = reasons_right k.sheet (at k) (after k) p.well case_meets

  -- one for each status that changed,
  pub case_one : (x : ℕ) → x < length (at k).before → changed k.sheet (at k) (after k) x ≡ true → length (about x (reasons_in k)) ≡ 1
  unfolding reasons_in
  case_one = one_reason k.sheet (at k) (after k) case_meets

  -- for every other one for each line of the change it could have made, and no more,
  pub case_lines : (x : ℕ) → x < length (at k).before → changed k.sheet (at k) (after k) x ≡ false
      → map (λ (r : Reason). r.line) (about x (reasons_in k)) ≡ map (λ (t : Test). t.line) (lines_for k.sheet (at k) (after k) x)
  unfolding reasons_in
  case_lines = each_line k.sheet (at k) (after k) case_meets

  -- never more than rule lines and child stages together,
  pub case_few : length (why k) ≤ 159
  unfolding reasons_in why
  case_few = rw length-map (reasons_few k.sheet (at k) (after k) case_meets p.well)

  -- and each number can be read back
  pub case_back : (r : Reason) → In r (reasons_in k) → ReadBack (length (statuses k.sheet.heads)) r
  unfolding reasons_in moment
  case_back r i =
      let (h, l) = reasons_in_lem k.sheet (at k) (after k) p.well case_meets r i in read_back (length (statuses k.sheet.heads)) r
      (omega (arith, p.marked)) l

-- MANY, or the list
abbrev told : Case → Bool → Answer (List ℕ)
told k true = refused MANY 0 0
told k false = taken (patterns (tests k.sheet) k.order (at k))

outlook_is : (k : Case) (b : Bool) → many (tests k.sheet) (at k) ≡ b → outlook k ≡ told k b
unfolding outlook
outlook_is k b e = go (many (tests k.sheet) (at k)) ∙ ap (told k) e
  where
    go : (b : Bool) → ◌≡◌ {A = Answer (List ℕ)} (elim b [ true ↦ refused MANY 0 0 | false ↦ taken (patterns (tests k.sheet) k.order (at k)) ]) (told k b)
    go true = refl
    go false = refl

-- MANY exactly when the parts are too many
pub outlook_told : (k : Case) → (outlook k ≡ refused MANY 0 0) ↔ (part_limit < parts (tests k.sheet) 0 (at k).values)
unfolding many
outlook_told k = (
  λ e. ltb-true part_limit (parts (tests k.sheet) 0 (at k).values) (go (many (tests k.sheet) (at k)) refl e),
  λ h. outlook_is k true (lt-ltb part_limit (parts (tests k.sheet) 0 (at k).values) h),
)
  where
    go : (b : Bool) → many (tests k.sheet) (at k) ≡ b → outlook k ≡ refused MANY 0 0 → many (tests k.sheet) (at k) ≡ true
    go true q e = q
    go false q e = absurd (refused_taken MANY 0 0 (patterns (tests k.sheet) k.order (at k)) (sym e ∙ outlook_is k false q))

-- where they are few the list is given
pub outlook_few : (k : Case) → parts (tests k.sheet) 0 (at k).values ≤ part_limit → outlook k ≡ taken (patterns (tests k.sheet) k.order (at k))
unfolding many
outlook_few k h = outlook_is k false (le-ltb part_limit (parts (tests k.sheet) 0 (at k).values) h)

-- what is listed is the list computed
pub outlook_listed : (k : Case) (list : List ℕ) → outlook k ≡ taken list → patterns (tests k.sheet) k.order (at k) ≡ list
outlook_listed k list e = go (many (tests k.sheet) (at k)) refl
  where
    go : (b : Bool) → many (tests k.sheet) (at k) ≡ b → patterns (tests k.sheet) k.order (at k) ≡ list
    go true q = absurd (refused_taken MANY 0 0 list (sym (outlook_is k true q) ∙ e))
    go false q = taken_same (patterns (tests k.sheet) k.order (at k)) list (sym (outlook_is k false q) ∙ e)

-- no list but one is the outlook
pub outlook_same : (ts : List Test) (m : Moment) (l h : List ℕ) → IsOutlook ts m l → IsOutlook ts m h → l ≡ h
outlook_same ts m l h a b =
    up_equal l h (up_from l a.ascending) (up_from h b.ascending) (λ p. (λ i. (b.each p).1 ((a.each p).0 i), λ i. (a.each p).1 ((b.each p).0 i)))

-- Where nothing is missing there is one filling
abbrev pub Known : List Value → Type 0
Known [] = Unit {0}
Known (missing ∷ vs) = ⊥
Known (number_at v ∷ vs) = Known vs

known_parts : (ts : List Test) (f : ℕ) (vs : List Value) → Known vs → parts ts f vs ≡ 1
unfolding parts
known_parts ts f [] h = refl
known_parts ts f (missing ∷ vs) h = absurd h
known_parts ts f (number_at v ∷ vs) h = known_parts ts (suc f) vs h

known_choices : (ts : List Test) (f : ℕ) (vs : List Value) → Known vs → choices (tried ts f vs) ≡ vs ∷ []
unfolding choices tried joined
known_choices ts f [] h = refl
known_choices ts f (missing ∷ vs) h = absurd h
known_choices ts f (number_at v ∷ vs) h = rw (known_choices ts (suc f) vs h)

-- "With no `?` it has one entry": the step's own pattern
pub outlook_known : (k : Case) → Known (at k).values → outlook k ≡ taken (pattern (after k) ∷ [])
unfolding many patterns ascending insert filled_with
outlook_known k h =
    let few : many (tests k.sheet) (at k) ≡ false = rw (known_parts (tests k.sheet) 0 (at k).values h) (le-ltb part_limit 1 (omega arith)) in
    let one : patterns (tests k.sheet) k.order (at k) ≡ pattern (after k) ∷ [] = rw (known_choices (tests k.sheet) 0 (at k).values h) in
    outlook_is k false few ∙ ap taken one
