-- What a caller may conclude: on the tables of a case that was read, the list is that of the meaning, and the answer is the outlook's;
-- and what the list tells of any tables.
use Prim.Native.Nat.{ℕ, zero, suc, ◌-◌, ◌/◌, ◌≤◌, ◌<◌}
use mathlib.Core.Path.{◌≡◌, refl, sym, ◌∙◌, ap, ap₂, subst}
use mathlib.Core.Bool.{Bool, true, false, cond}
use mathlib.Core.List.{List, [], ◌∷◌, ◌++◌, map, map-map}
use mathlib.Core.Logic.{inl, inr, ⊎_elim}
use native.Mathlib.Omega.{arith}
use lib.Dec.{leb, ltb}
use lib.ListN.{length, length-map, get_or, take, drop, replicate}
use lib.Seq.{take_at, length-take-le}
use Rattle.std.specs.Prelude as Std
use Rattle.meaning.specs.Text.{In, from}
use Rattle.meaning.specs.Refusal.{Answer, taken, refused, on_taken, ROOM, MANY}
use Rattle.meaning.specs.Limits.{part_limit, highest, field_limit}
use Rattle.meaning.specs.Number.{Value, missing, number_at, Entry}
use Rattle.meaning.specs.Sheet.{statuses}
use Rattle.meaning.specs.Tests.{Test, nodes, tests}
use Rattle.meaning.specs.Card.{Put}
use Rattle.meaning.specs.Step.{moment, put_in, some_holds, leads_to, pattern}
use Rattle.meaning.specs.Outlook.{filled_with, cuts, many, tried, choices, ascending, patterns}
use Rattle.meaning.specs.Doors.{Case, read_case, outlook, fitting, replied, written}
use Rattle.theory.specs.Lists.Members.{map_in, map_same, joined_in, set_in}
use Rattle.theory.specs.Reading.Readers.{refused_taken, taken_same}
use Rattle.theory.specs.Papers.Formed.{Each}
use Rattle.theory.specs.Papers.Entries.{Proper, proper_most}
use Rattle.theory.specs.Step.HalfMade.{run_length}
use Rattle.theory.specs.Writing.ReadBack.{put_length}
use Rattle.theory.specs.Papers.Case.{Papers, case_holds, Apart, case_apart}
use Rattle.theory.specs.Requests.Cases.{at}
use Rattle.theory.specs.Lists.Padded.{padded, padded_at, padded_take}
use Rattle.limits.specs.Sizes.{word_room}
use Rattle.reply.specs.Answers.{as_reply, refused_reply}
use Rattle.marks.specs.Codes.{coded, valued}
use Rattle.sheet_tables.specs.Heads.{as_heads}
use Rattle.sheet_tables.proofs.Tables.{sized}
use Rattle.sheet_tables.specs.Rules.{words_of, all_words}
use Rattle.step_test.specs.declared.Moment.{Moment}
use Rattle.step_test.specs.Codes.{as_moment}
use Rattle.step_plan.specs.Plan.{as_plan}
use Rattle.step_run.specs.Run.{run_over}
use Rattle.step_run.proofs.Callers.{order_leads}
use Rattle.step_moment.proofs.Callers.{pattern_side}
use Rattle.outlook_cuts.specs.Codes.{cut_codes}
use Rattle.outlook_cuts.proofs.Callers.{sheet_cuts}
use Rattle.outlook_combos.specs.Numbered.{size, choice}
use Rattle.outlook_combos.proofs.Callers.{choices_numbered}
use Rattle.outlook_parts.specs.Tried.{tried_from}
use Rattle.outlook_parts.proofs.Callers.{tried_lists, tried_many}
use Rattle.step_sheet.specs.declared.Accepted.{Accepted}
use Rattle.step_sheet.specs.Answers.{taken_sheet}
use Rattle.step_sheet.proofs.Sheets.{accepted_fits, accepted_words, accepted_nodes}
use Rattle.outlook_case.proofs.Laws.{list_few, exceeds_told, within_told, ps_are, outlook_fits}
use Rattle.outlook_case.specs.Patterns.{
  pattern_of,
  pattern_at,
  patterns_from,
  fixed_of,
  tried_of,
  list_of,
  answer_of,
  as_listed,
  list_space,
  reply_for,
  space_for,
  Ready,
}

-- LISTS OF VALUES

-- what is put in is proper where both are
put_proper : (ps : List Put) (es : List Entry) → Each Proper es → ((p : Put) → In p ps → Proper p.entry) → Each Proper (put_in ps es)
unfolding put_in
put_proper [] es h g = h
put_proper (p ∷ ps) es h g =
    put_proper ps _ (λ e i. ⊎_elim (λ q. subst Proper (sym q) (g p (inl refl))) (h e) (set_in es p.field p.entry e i)) (λ q i. g q (inr i))

-- a choice is as long as the lists are many
choices_long : (ts : List (List Value)) (vs : List Value) → In vs (choices ts) → length vs ≡ length ts
unfolding choices
choices_long [] vs (inl e) = ap length e
choices_long [] vs (inr i) = absurd i
choices_long (t ∷ ts) vs i =
    let (v, j, k) = joined_in (λ v. map (λ w. v ∷ w) (choices ts)) vs t i in
    let (w, m, e) = map_in (λ w. v ∷ w) vs (choices ts) k in
    ap length e ∙ ap suc (choices_long ts w m)

tried_long : (ts : List Test) (f : ℕ) (vs : List Value) → length (tried ts f vs) ≡ length vs
unfolding tried
tried_long ts f [] = refl
tried_long ts f (missing ∷ vs) = ap suc (tried_long ts (suc f) vs)
tried_long ts f (number_at v ∷ vs) = ap suc (tried_long ts (suc f) vs)

padded_is : (vs : List Value) (n : ℕ) → length vs ≡ n → map coded vs ++ replicate (field_limit - n) 0 ≡ padded field_limit 0 (map coded vs)
unfolding padded
padded_is vs n e = ap (λ m. map coded vs ++ replicate (field_limit - m) 0) (sym (length-map vs coded ∙ e))

-- the code of a value on the scale
coded_low : (v : Value) → ((k : ℕ) → v ≡ number_at k → k ≤ highest) → coded v < 4294967296
coded_low missing h = omega arith
coded_low (number_at k) h = omega (arith, h k refl)

-- THE CASE

module _ (s c e : List ℕ) (k : Case) (q : read_case s c e ≡ taken k) where
  abbrev a : Accepted
  a = taken_sheet (record { sheet = k.sheet; order = k.order })

  abbrev ts : List Test
  ts = tests k.sheet

  -- the moment as the code has it
  abbrev m : Moment
  m = as_moment (at k)

  abbrev entries : List Entry
  entries = put_in k.happening.puts k.card.entries

  papers : Papers k
  papers = case_holds s c e k q

  apart : Apart s c e k
  apart = case_apart s c e k q

  proper : Each Proper entries
  proper = put_proper k.happening.puts k.card.entries papers.proper (λ p i. (papers.happening.puts p i).proper)

  low : (f : ℕ) → get_or m.values f 0 < 4294967296
  unfolding moment valued
  low f = rw (padded_at field_limit 0 (map coded (map (λ (e : Entry). e.value) entries)) f) (go entries proper f)
    where
      go : (es : List Entry) → Each Proper es → (f : ℕ) → get_or (map coded (map (λ (e : Entry). e.value) es)) f 0 < 4294967296
      go [] h f = omega arith
      go (e ∷ es) h zero = coded_low e.value (proper_most e (h e (inl refl)))
      go (e ∷ es) h (suc f) = go es (λ x i. h x (inr i)) f

  long : length k.order ≡ nodes k.sheet.heads
  long = accepted_nodes s (record { sheet = k.sheet; order = k.order }) apart.sheet

  pub ready : Ready a m
  unfolding as_plan nodes
  ready = record {
    sized = sized k.sheet.heads papers.well.heads;
    few_nodes = omega (arith, long, papers.well.heads.statuses_few);
    few_words = accepted_words s (record { sheet = k.sheet; order = k.order }) apart.sheet;
    coded = record { low = λ f h. low f };
  }

  fields_many : length (at k).values ≡ length k.sheet.heads.fields
  unfolding moment
  fields_many = length-map entries (λ (e : Entry). e.value) ∙ put_length k.happening.puts k.card.entries ∙ papers.entries

  filled : m.values ≡ map coded (at k).values ++ replicate (field_limit - length (at k).values) 0
  unfolding padded valued
  filled = ap (λ n. map coded (at k).values ++ replicate (field_limit - n) 0) (length-map (at k).values coded)

  cut_codes_lem : (f : ℕ) → f < field_limit → cut_codes f (all_words k.sheet.rules) ≡ map suc (cuts ts f)
  unfolding all_words words_of
  cut_codes_lem f h = sheet_cuts f words_of refl (λ c. refl) k.sheet (accepted_fits s (record { sheet = k.sheet; order = k.order }) apart.sheet)

  few : length (at k).values ≤ field_limit
  few = omega (arith, fields_many, papers.well.heads.fields_few)

  tried_are : tried_of a m ≡ tried_from (all_words k.sheet.rules) (length (at k).values) 0 m.values
  unfolding tried_of as_heads
  tried_are = ap₂ (λ ws n. tried_from ws n 0 m.values) (padded_take word_room 0 (all_words k.sheet.rules)) (sym fields_many)

  lists : tried_of a m ≡ map (map coded) (tried ts 0 (at k).values) ++ replicate (field_limit - length (at k).values) (0 ∷ [])
  lists = tried_are ∙ tried_lists coded refl (λ v. refl) ts (all_words k.sheet.rules) cut_codes_lem (at k).values few m.values filled

  -- MANY
  many_is : ltb part_limit (size (tried_of a m)) ≡ many ts (at k)
  many_is = ap (λ rs. ltb part_limit (size rs)) tried_are
      ∙ sym (tried_many coded refl (λ v. refl) ts (all_words k.sheet.rules) cut_codes_lem (at k).values few m.values filled (at k) refl)

  leads_long : (vs : List Value) → length (leads_to ts (filled_with (at k) vs) k.order) ≡ length (statuses k.sheet.heads)
  unfolding leads_to filled_with moment
  leads_long vs = run_length (λ half. some_holds (filled_with (at k) vs) half ts) k.order (at k).before ∙ papers.marked

  -- the pattern of a choice
  pattern_is : (vs : List Value) (codes : List ℕ) → codes ≡ padded field_limit 0 (map coded vs)
      → pattern_at (fixed_of a m) codes ≡ pattern (leads_to ts (filled_with (at k) vs) k.order)
  unfolding pattern_of filled_with as_plan padded valued nodes moment
  pattern_is vs codes is =
      pattern_side (leads_to ts (filled_with (at k) vs) k.order) (run_over a.words (as_moment (filled_with (at k) vs)) a.plan) (a.plan.nodes / 2)
      (pattern_at (fixed_of a m) codes)
      (order_leads k.sheet papers.well (accepted_fits s (record { sheet = k.sheet; order = k.order }) apart.sheet) k.order papers.order
      (filled_with (at k) vs) papers.marked
      a.words (replicate (word_room - length (all_words k.sheet.rules)) 0) refl)
      (omega (arith, long, leads_long vs)) (ap (λ codes. pattern_at (fixed_of a m) codes) is)

  -- and so the list
  list_is : list_of a m ≡ patterns ts k.order (at k)
  unfolding list_of patterns_from patterns
  list_is =
      let rs = tried_of a m in
      let f : List ℕ → ℕ = pattern_at (fixed_of a m) in
      let n = field_limit - length (at k).values in
      ap ascending (sym (map-map f (choice rs) (from 0 (size rs)))
      ∙ ap (map f) (choices_numbered n 0 coded (tried ts 0 (at k).values) rs lists)
      ∙ map-map f (λ vs. map coded vs ++ replicate n 0) (choices (tried ts 0 (at k).values))
      ∙ map_same (λ vs. f (map coded vs ++ replicate n 0)) (λ vs. pattern (leads_to ts (filled_with (at k) vs) k.order))
      (choices (tried ts 0 (at k).values)) each)
    where
      each : (vs : List Value) → In vs (choices (tried ts 0 (at k).values))
          → pattern_at (fixed_of a m) (map coded vs ++ replicate (field_limit - length (at k).values) 0) ≡ pattern (leads_to ts (filled_with (at k) vs) k.order)
      each vs i = pattern_is vs (map coded vs ++ replicate (field_limit - length (at k).values) 0)
          (padded_is vs (length (at k).values) (choices_long (tried ts 0 (at k).values) vs i ∙ tried_long ts 0 (at k).values))

  -- THE ANSWER

  -- the list, or a refusal
  abbrev told : Bool → Answer (List ℕ)
  told true = refused MANY 0 0
  told false = taken (patterns ts k.order (at k))

  outlook_is : (b : Bool) → many ts (at k) ≡ b → outlook k ≡ told b
  unfolding outlook
  outlook_is b e = go (many ts (at k)) ∙ ap told e
    where
      go : (b : Bool) → ◌≡◌ {A = Answer (List ℕ)} (elim b [ true ↦ refused MANY 0 0 | false ↦ taken (patterns ts k.order (at k)) ]) (told b)
      go true = refl
      go false = refl

  pub answer_outlook : answer_of a m ≡ outlook k
  unfolding answer_of
  answer_outlook = rw (many_is, list_is) (go (many ts (at k)) refl)
    where
      go : (b : Bool) → many ts (at k) ≡ b → cond (many ts (at k)) (refused MANY 0 0) (taken (patterns ts k.order (at k))) ≡ outlook k
      go true e = rw (outlook_is true e, e)
      go false e = rw (outlook_is false e, e)

  pub reply_outlook : (room : ℕ) → reply_for a m room
      ≡ as_reply (replied (λ (l : List ℕ). length l) (λ l. 0) (on_taken (outlook k) (λ l. fitting (λ l. l) room l)))
  unfolding reply_for fitting replied
  reply_outlook room = rw (many_is, list_is) (go (many ts (at k)) refl)
    where
      fits : (b : Bool) → cond b (record { number = 0; paper = 0; line = 0; count = length (patterns ts k.order (at k)); tasks = 0 }) (refused_reply ROOM 0 0)
          ≡ as_reply (replied (λ (l : List ℕ). length l) (λ l. 0) (cond b (taken (patterns ts k.order (at k))) (refused ROOM 0 0)))
      fits true = refl
      fits false = refl

      go : (m : Bool) → many ts (at k) ≡ m
          → cond (many ts (at k)) (refused_reply MANY 0 0)
          (cond (leb (length (patterns ts k.order (at k))) room)
          (record { number = 0; paper = 0; line = 0; count = length (patterns ts k.order (at k)); tasks = 0 }) (refused_reply ROOM 0 0))
          ≡ as_reply (replied (λ (l : List ℕ). length l) (λ l. 0) (on_taken (outlook k) (λ l. cond (leb (length l) room) (taken l) (refused ROOM 0 0))))
      go true m = rw (outlook_is true m, m)
      go false m = rw (outlook_is false m, m) (fits (leb (length (patterns ts k.order (at k))) room))

  pub space_outlook : (lent : List ℕ) → space_for a m lent ≡ written (λ (l : List ℕ). l) lent (on_taken (outlook k) (λ l. fitting (λ l. l) (length lent) l))
  unfolding space_for fitting written
  space_outlook lent = rw (many_is, list_is) (go (many ts (at k)) refl)
    where
      fits : (b : Bool) → cond b (patterns ts k.order (at k) ++ drop (length (patterns ts k.order (at k))) lent) lent
          ≡ written (λ (l : List ℕ). l) lent (cond b (taken (patterns ts k.order (at k))) (refused ROOM 0 0))
      fits true = refl
      fits false = refl

      go : (m : Bool) → many ts (at k) ≡ m
          → cond (many ts (at k)) lent (cond (leb (length (patterns ts k.order (at k))) (length lent))
          (patterns ts k.order (at k) ++ drop (length (patterns ts k.order (at k))) lent) lent)
          ≡ written (λ (l : List ℕ). l) lent (on_taken (outlook k) (λ l. cond (leb (length l) (length lent)) (taken l) (refused ROOM 0 0)))
      go true m = rw (outlook_is true m, m)
      go false m = rw (outlook_is false m, m) (fits (leb (length (patterns ts k.order (at k))) (length lent)))

-- WHAT THE LIST TELLS, whatever the tables hold

-- its lines are as many as the parts at most
pub answer_few : (a : Accepted) (m : Moment) (ps : List ℕ) → answer_of a m ≡ taken ps → length ps ≤ part_limit
unfolding answer_of
answer_few a m ps = go (ltb part_limit (size (tried_of a m))) refl
  where
    go : (b : Bool) → ltb part_limit (size (tried_of a m)) ≡ b → cond b (refused MANY 0 0) (taken (list_of a m)) ≡ taken ps → length ps ≤ part_limit
    go true e is = absurd (refused_taken MANY 0 0 ps is)
    go false e is = rw (taken_same (list_of a m) ps is) at (list_few a m e)

module _ (a : Accepted) (m : Moment) (l : Std.Option ℕ) (told : l ≡ as_listed a m) where
  pub listed_many : l ≡ Std.None → answer_of a m ≡ refused MANY 0 0
  unfolding answer_of
  listed_many z = rw (exceeds_told a m l told z)

  module _ (n : ℕ) (z : l ≡ Std.Some n) (was ps : List ℕ) (space : ps ≡ list_space a m was) where
    pub listed_part : n ≤ length ps
    listed_part = outlook_fits a m l told n z was was ps space

    pub listed_long : n ≡ length (take n ps)
    listed_long = sym (length-take-le n ps listed_part)

    pub listed_taken : answer_of a m ≡ taken (take n ps)
    unfolding answer_of
    listed_taken =
        let (few, count) = within_told a m l told n z in
        let list : take n ps ≡ list_of a m = ap (take n) (ps_are a m l told n z was was ps space) ∙ take_at (list_of a m) (drop (length (list_of a m)) was) n
        (sym count) in
        rw (few, list)

pub ruleset parts_of_lem = (listed_part, listed_long)
