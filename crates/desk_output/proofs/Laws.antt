-- What the desk program prints for three papers, return by return: what is known there, and the answer that is asked.
use Prim.Native.Nat.{ℕ, zero, suc, ◌+◌, ◌*◌, ◌/◌, ◌%◌, ◌≤◌}
use mathlib.Core.Path.{◌≡◌, refl, sym, ◌∙◌, ap, ap₂, subst}
use mathlib.Core.Bool.{Bool, true, false}
use mathlib.Core.List.{List, [], ◌∷◌, ◌++◌, map}
use native.Mathlib.Omega.{arith}
use mir.Val.{Fits}
use mir.Syntax.{w64}
use borrow.Author.Tests.{eq-eqb, ne_eqb}
use lib.ListN.{length, length-append}
use Rattle.meaning.specs.Text.{text, from}
use Rattle.meaning.specs.Limits.{status_limit, part_limit}
use Rattle.meaning.specs.Sheet.{Status}
use Rattle.meaning.specs.Sheet as M
use Rattle.meaning.specs.Step.{started_from, started, pattern}
use Rattle.meaning.specs.Write.{line}
use Rattle.meaning.specs.Doors as D
use Rattle.meaning.specs.Doors.{read_case, next, outlook}
use Rattle.meaning.specs.Desk.{start_lines, outlook_lines, printed}
use Rattle.theory.specs.Papers.Formed.{WellHeads}
use Rattle.theory.specs.Papers.Case.{case_holds}
use Rattle.theory.specs.Requests.Cases.{at, after}
use Rattle.limits.specs.Sizes.{name_room}
use Rattle.name.specs.Names.{names_in, spell_room}
use Rattle.sheet_tables.specs.declared.Heads.{Heads}
use Rattle.sheet_tables.specs.Heads.{Sized, status_at, heads_of, as_heads}
use Rattle.sheet_tables.proofs.Tables.{sized, heads_again}
use Rattle.theory.specs.Writing.Lent.{Wrote, wrote_long, wrote_room, wrote_both}
use Rattle.card_write.specs.Answers.{space_with}
use Rattle.reply.specs.declared.Reply.{Reply}
use Rattle.step_test.specs.declared.Moment.{Moment}
use Rattle.step_test.specs.Codes.{as_moment}
use Rattle.step_moment.specs.Tables.{moment_of}
use Rattle.case_read.specs.declared.Case.{Case}
use Rattle.case_read.specs.Answers.{taken_case, as_case}
use Rattle.case_read.proofs.Callers.{TheCase, the_case, case_moment, printed_case}
use Rattle.step_case.specs.Next.{text_after, tasks_after, reply_after}
use Rattle.step_case.proofs.Callers.{text_after_lem, next_few, tasks_after_lem, reply_stepped, card_written}
use Rattle.outlook_case.specs.Patterns.{Ready, answer_of}
use Rattle.outlook_case.proofs.Callers.{ready, answer_outlook}
use Rattle.desk_rooms.specs.Rooms.{list_room, desk_room}
use Rattle.desk_print.specs.Lines.{start_text}
use Rattle.desk_output.specs.Texts.{starts_text, tasks_text, step_text}
use Rattle.desk_output.proofs.Lines.{starts_few, listed_few}

-- what is printed for a case, and for three papers
abbrev pub of_case : List ℕ → D.Case → List ℕ
of_case sheet k = (next k).card ++ start_lines k.sheet.heads.stages (next k).tasks ++ outlook_lines (outlook k)

abbrev pub of_papers : List ℕ → List ℕ → List ℕ → List ℕ
of_papers sheet card event = printed (read_case sheet card event)

-- TASKS

started_long : (all : List Status) (before after : List Bool) (x : ℕ) (ss : List Status) → length (started_from all before after x ss) ≡ length ss
unfolding started_from
started_long all before after x [] = refl
started_long all before after x (s ∷ ss) = ap suc (started_long all before after (suc x) ss)

-- the lines of the stages from place x on, told by the bits of a pattern
starts_are : (h : Heads) (n x : ℕ) (bs : List Bool) → length bs ≡ n
    → starts_text (names_in h.names) (h.fields + h.events + x) n (pattern bs) ≡ start_lines (map (status_at h) (from x n)) bs
unfolding starts_text start_text pattern start_lines from
starts_are h zero x [] l = refl
starts_are h zero x (b ∷ bs) l = absurd (omega arith)
starts_are h (suc n) x [] l = absurd (omega arith)
starts_are h (suc n) x (true ∷ bs) l =
    let odd : (1 + 2 * pattern bs) % 2 ≡ 1 = omega arith in
    let half : (1 + 2 * pattern bs) / 2 ≡ pattern bs = omega arith in
    let z : suc (h.fields + h.events + x) ≡ h.fields + h.events + suc x = omega arith in
    rw (eq-eqb ((1 + 2 * pattern bs) % 2) 1 odd, half, z) (ap (λ t. line (text "start") (status_at h x).name ++ t) (starts_are h n (suc x) bs (omega arith)))
starts_are h (suc n) x (false ∷ bs) l =
    let even : (2 * pattern bs) % 2 ≡ 1 → ⊥ = λ y. omega arith in
    let half : (2 * pattern bs) / 2 ≡ pattern bs = omega arith in
    let z : suc (h.fields + h.events + x) ≡ h.fields + h.events + suc x = omega arith in
    rw (ne_eqb ((2 * pattern bs) % 2) 1 even, half, z) (starts_are h n (suc x) bs (omega arith))

-- those of a sheet
stages_are : (hd : M.Heads) → WellHeads hd → map (status_at (as_heads hd)) (from 0 (as_heads hd).stages) ≡ hd.stages
unfolding heads_of
stages_are hd w = ap (λ (hd : M.Heads). hd.stages) (heads_again hd w)

sheet_starts : (hd : M.Heads) → WellHeads hd → (bs : List Bool) → length bs ≡ length hd.stages
    → tasks_text (as_heads hd) (pattern bs) ≡ start_lines hd.stages bs
unfolding as_heads tasks_text
sheet_starts hd w bs l =
    let z : (as_heads hd).fields + (as_heads hd).events + 0 ≡ (as_heads hd).fields + (as_heads hd).events = omega arith in
    ap (λ i. starts_text (names_in (as_heads hd).names) i (as_heads hd).stages (pattern bs)) (sym z)
    ∙ starts_are (as_heads hd) (length hd.stages) 0 bs l ∙ ap (λ ss. start_lines ss bs) (stages_are hd w)

-- the stages' names are among those of the tables
module _ (h : Heads) (few : Sized h) where
  pub tasks_sum : Fits w64 (h.fields + h.events)
  tasks_sum = omega (arith, few.few_fields, few.few_events)

  pub tasks_held : (f : ℕ) → f ≡ h.fields + h.events → f + h.stages ≤ name_room
  tasks_held f is = omega (arith, few.few_fields, few.few_events, few.few_statuses)

module _ (h : Heads) (f : ℕ) (is : f ≡ h.fields + h.events) (t at : ℕ) (o : List ℕ) where
  pub tasks_room : at + length (tasks_text h t) ≤ length o → at + length (starts_text (names_in h.names) f h.stages t) ≤ length o
  unfolding tasks_text
  tasks_room fits = rw is fits

  pub tasks_done : (o1 : List ℕ) (r : ℕ) → Wrote at (starts_text (names_in h.names) f h.stages t) o o1 r → Wrote at (tasks_text h t) o o1 r
  unfolding tasks_text
  tasks_done o1 r v = rw (← is) v

pub ruleset tasking = (tasks_sum, tasks_held, tasks_room, tasks_done)

-- THE NEXT CARD AND THE TASKS

module _ (x : Case) (c e o : List ℕ) (room : 0 + length (step_text x c e) ≤ length o) (o1 : List ℕ)
    (space : o1 ≡ space_with o (text_after x.sheet x.card x.happening c e))
    (r : Reply) (answer : r ≡ reply_after x.sheet x.card x.happening c e (length o)) where
  abbrev card : List ℕ
  card = text_after x.sheet x.card x.happening c e

  abbrev tasks : List ℕ
  tasks = tasks_text x.sheet.heads (tasks_after x.sheet x.card x.happening)

  both_fit : 0 + length (card ++ tasks) ≤ length o
  unfolding step_text
  both_fit = room

  fits : length card ≤ length o
  fits = omega (arith, both_fit, length-append card tasks)

  carded : Wrote 0 card o o1 r.count
  carded = card_written x.sheet x.card x.happening c e o fits o1 r answer space

  tasks_are : tasks_text x.sheet.heads r.tasks ≡ tasks
  tasks_are = ap (λ (r : Reply). tasks_text x.sheet.heads r.tasks) (reply_stepped x.sheet x.card x.happening c e o fits o1 r answer space)

  pub step_tasks : r.count + length (tasks_text x.sheet.heads r.tasks) ≤ length o1
  step_tasks = rw tasks_are (wrote_room 0 card tasks o o1 r.count both_fit carded)

  pub step_done : (o2 : List ℕ) (n : ℕ) → Wrote r.count (tasks_text x.sheet.heads r.tasks) o1 o2 n → Wrote 0 (step_text x c e) o o2 n
  unfolding step_text
  step_done o2 n v = wrote_both 0 card tasks o o1 r.count both_fit carded o2 n (rw tasks_are at v)

pub ruleset stepping = (step_tasks, step_done)

-- THE OUTLOOK

module _ (x : Case) (m : Moment) (is : m ≡ moment_of x.card x.happening) where
  pub coming_ready : Ready x.sheet (moment_of x.card x.happening) → Ready x.sheet m
  coming_ready h = rw is h

  pub coming_done : (at : ℕ) (o o1 : List ℕ) (r : ℕ) → Wrote at (outlook_lines (answer_of x.sheet m)) o o1 r
      → Wrote at (outlook_lines (answer_of x.sheet (moment_of x.card x.happening))) o o1 r
  coming_done at o o1 r v = rw (← is) v

pub ruleset listing = (coming_ready, coming_done)

-- THE PAPERS OF A CASE

module _ (s c e : List ℕ) (x : Case) (told : x ≡ as_case (read_case s c e)) (zero : x.number ≡ 0) where
  abbrev d : TheCase s c e x
  d = the_case s c e x told zero

  abbrev k : D.Case
  k = d.k

  well : WellHeads k.sheet.heads
  well = (case_holds s c e k d.q).well.heads

  -- the next card and the tasks
  abbrev starts : List ℕ
  starts = start_lines k.sheet.heads.stages (next k).tasks

  tasks_long : length (next k).tasks ≡ length k.sheet.heads.stages
  unfolding next started
  tasks_long = started_long k.sheet.heads.stages k.card.statuses (after k) 0 k.sheet.heads.stages

  step_is : step_text x c e ≡ (next k).card ++ starts
  unfolding step_text
  step_is =
      ap (λ x. step_text x c e) d.is
      ∙ ap₂ ◌++◌ (text_after_lem s c e k d.q) (ap (tasks_text (as_heads k.sheet.heads)) (tasks_after_lem s c e k d.q) ∙ sheet_starts k.sheet.heads well
      (next k).tasks tasks_long)

  starts_most : length starts ≤ status_limit * (spell_room + 7)
  unfolding tasks_text
  starts_most =
      let h = as_heads k.sheet.heads in
      rw (← sheet_starts k.sheet.heads well (next k).tasks tasks_long)
      (omega (arith, starts_few h.names (h.fields + h.events) h.stages (pattern (next k).tasks), (sized k.sheet.heads well).few_statuses))

  -- both fit what the desk is lent beside the lines of an outlook
  step_few : length (step_text x c e) ≤ part_limit
  step_few = rw step_is (omega (arith, next_few s c e k d.q, length-append (next k).card starts, starts_most))

  -- the outlook
  abbrev listed : List ℕ
  listed = outlook_lines (answer_of x.sheet (moment_of x.card x.happening))

  listed_is : listed ≡ outlook_lines (outlook k)
  listed_is =
      ap (λ (x : Case). outlook_lines (answer_of x.sheet (moment_of x.card x.happening))) d.is
      ∙ ap (λ m. outlook_lines (answer_of (taken_case k).sheet m)) moment_is ∙ ap outlook_lines (answer_outlook s c e k d.q)
    where
      moment_is : moment_of (taken_case k).card (taken_case k).happening ≡ as_moment (at k)
      moment_is = sym (ap (λ (x : Case). moment_of x.card x.happening) d.is) ∙ case_moment s c e x told zero (moment_of x.card x.happening) refl

  pub case_ready : Ready x.sheet (moment_of x.card x.happening)
  case_ready = rw (case_moment s c e x told zero (moment_of x.card x.happening) refl) ready_at
    where
      ready_at : Ready x.sheet (as_moment (at k))
      ready_at = subst (λ (x : Case). Ready x.sheet (as_moment (at k))) (sym d.is) (ready s c e k d.q)

  -- all of it
  module _ (o : List ℕ) (room : desk_room ≤ length o) where
    pub case_step : 0 + length (step_text x c e) ≤ length o
    case_step = omega (arith, step_few)

    all_fit : 0 + length (step_text x c e ++ listed) ≤ length o
    all_fit = omega (arith, step_few, listed_few x.sheet (moment_of x.card x.happening), length-append (step_text x c e) listed)

    module _ (o1 : List ℕ) (b : ℕ) (v : Wrote 0 (step_text x c e) o o1 b) where
      pub case_coming : b + list_room ≤ length o1
      case_coming = omega (arith, v.next, wrote_long 0 (step_text x c e) listed o o1 b all_fit v, step_few)

      pub case_done : (o2 : List ℕ) (n : ℕ) → Wrote b (outlook_lines (answer_of x.sheet (moment_of x.card x.happening))) o1 o2 n
          → Wrote 0 (printed (read_case s c e)) o o2 n
      unfolding printed
      case_done o2 n u =
          printed_case of_case s c e x d (step_text x c e ++ listed) (ap₂ ◌++◌ step_is listed_is) o o2 n
          (wrote_both 0 (step_text x c e) listed o o1 b all_fit v o2 n u)

pub ruleset casing = (case_ready, case_step, case_coming, case_done)
