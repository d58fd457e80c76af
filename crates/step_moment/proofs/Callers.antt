-- What callers use: on the tables of a case that was read, the values are those after the event, the tasks those started, and a pattern is that of the
-- statuses.
use Prim.Native.Nat.{ℕ, zero, suc, ◌+◌, ◌-◌, ◌≤◌, ◌<◌}
use mathlib.Core.Path.{◌≡◌, refl, sym, ap, ap₂, ◌∙◌}
use mathlib.Core.Bool.{Bool, true, false, not, ◌&&◌, ◌||◌, cond, and-true, and-false}
use mathlib.Core.List.{List, [], ◌∷◌, ◌++◌, map, map-map, map-append, append_assoc}
use mathlib.Core.Logic.{inl, inr}
use mathlib.Core.Option.{Option, none, some}
use native.Mathlib.Omega.{arith}
use native.Mathlib.Decide.{ℕ_discrete}
use borrow.Author.Tests.{eq-eqb, ne_eqb}
use lib.Dec.{eqb}
use lib.ListN.{length, length-map, length-take, length-append, length-set, get_or, take, set, replicate}
use lib.Seq.{take_at, get_or-take, get_or-set_same, get_or-set_other, ext_get_or}
use Rattle.meaning.specs.Text.{any}
use Rattle.meaning.specs.Kleene.{false₃}
use Rattle.meaning.specs.Number.{Entry}
use Rattle.meaning.specs.Sheet.{Heads, Status, statuses}
use Rattle.meaning.specs.Card as M
use Rattle.meaning.specs.Card.{Put}
use Rattle.meaning.specs.Step.{put_in, moment, rose, within, childless, started_from, started, pattern}
use Rattle.meaning.specs.Limits.{field_limit, status_limit}
use Rattle.theory.specs.Lists.Members.{map_set}
use Rattle.theory.specs.Papers.Formed.{Each}
use Rattle.theory.specs.Papers.Cards.{PutIn}
use Rattle.theory.specs.Lists.Padded.{padded, padded_at, padded_store, padded_length}
use Rattle.marks.specs.Codes.{code, mark_code, is_yes, yes_at, marked, side_of, coded, valued}
use Rattle.marks.proofs.Callers.{side_again, mark_yes}
use Rattle.sheet_tables.specs.Heads.{under_code}
use Rattle.case_tables.specs.Cards.{value_codes, as_card, as_happening}
use Rattle.step_test.specs.Codes.{as_moment}
use Rattle.step_moment.specs.Tables.{put_codes, moment_of, mark_parents, task_mark, task_marks}
use Rattle.step_moment.proofs.Laws.{task_at}

-- THE VALUES

abbrev entry_code : Entry → ℕ
entry_code e = coded e.value

put_codes_lem : (ps : List Put) (es : List Entry) (rest : List ℕ) → Each (PutIn (length es)) ps
    → put_codes (map (λ p. p.field) ps) (map (λ p. entry_code p.entry) ps ++ rest) (padded field_limit 0 (map entry_code es))
    ≡ padded field_limit 0 (map entry_code (put_in ps es))
unfolding put_codes put_in
put_codes_lem [] es rest h = refl
put_codes_lem (p ∷ ps) es rest h =
    let below : p.field < length (map entry_code es) = omega (arith, (h p (inl refl)).field, length-map es entry_code) in
    let one : set (padded field_limit 0 (map entry_code es)) p.field (entry_code p.entry)
    ≡ padded field_limit 0 (map entry_code (set es p.field p.entry)) =
    padded_store field_limit 0 (map entry_code es) p.field (entry_code p.entry) below
    ∙ ap (padded field_limit 0) (sym (map_set entry_code es p.field p.entry)) in
    ap (put_codes (map (λ p. p.field) ps) (map (λ p. entry_code p.entry) ps ++ rest)) one
    ∙ put_codes_lem ps (set es p.field p.entry) rest
    (λ q i. record { field = rw (length-set es p.field p.entry) (h q (inr i)).field; proper = (h q (inr i)).proper })

-- of what `put_in` answers for a card and an event line that were read
pub values_after : (ps : List Put) (es : List Entry) (n : ℕ) (fields values codes r : List ℕ) → Each (PutIn (length es)) ps
    → n ≡ length ps → fields ≡ padded field_limit 0 (map (λ p. p.field) ps) → values ≡ value_codes (map (λ p. p.entry) ps) → codes ≡ value_codes es
    → r ≡ put_codes (take n fields) values codes → r ≡ value_codes (put_in ps es)
unfolding padded
values_after ps es n fields values codes r h count f v c e =
    let named : take n fields ≡ map (λ p. p.field) ps = ap₂ take count f
    ∙ take_at (map (λ p. p.field) ps) _ (length ps) (length-map ps (λ (p : Put). p.field)) in
    e ∙ ap₂ (λ fs vs. put_codes fs vs codes) named v ∙ ap (put_codes (map (λ p. p.field) ps) (value_codes (map (λ p. p.entry) ps))) c
    ∙ ap (λ vs. put_codes (map (λ p. p.field) ps) (vs ++ replicate (field_limit - length (map entry_code (map (λ p. p.entry) ps))) 0) (value_codes es))
    (map-map entry_code (λ (p : Put). p.entry) ps)
    ∙ put_codes_lem ps es (replicate (field_limit - length (map entry_code (map (λ p. p.entry) ps))) 0) h

-- the moment of a card and an event line that were read is the meaning's
pub moment_is : (hd : Heads) (c : M.Card) (h : M.Happening) → Each (PutIn (length c.entries)) h.puts
    → moment_of (as_card hd c) (as_happening hd h) ≡ as_moment (moment c h)
unfolding moment as_card as_happening marked valued
moment_is hd c h puts =
    let e = values_after h.puts c.entries (length h.puts) (padded field_limit 0 (map (λ (p : Put). p.field) h.puts))
    (value_codes (map (λ (p : Put). p.entry) h.puts)) (value_codes c.entries) _ puts refl refl refl refl refl in
    ap (λ vs. record { event = h.event; values = vs; before = marked c.statuses })
    (e ∙ ap (padded field_limit 0) (sym (map-map coded (λ (e : Entry). e.value) (put_in h.puts c.entries))))

-- PATTERNS

-- of what `pattern_of` answers for the marks of a side
pub pattern_side : (bs : List Bool) (marks : List ℕ) (n r : ℕ) → marks ≡ marked bs → n ≡ length bs → r ≡ pattern (side_of (take n marks)) → r ≡ pattern bs
unfolding marked padded
pattern_side bs marks n r m k e = e ∙ ap₂ (λ n l. pattern (side_of (take n l))) k m
    ∙ ap (λ l. pattern (side_of l)) (take_at (map mark_code bs) _ (length bs) (length-map bs mark_code)) ∙ ap pattern (side_again bs)

-- TASKS

-- a stage is unmarked where no code names it
parents_length : (ps cs : List ℕ) → length (mark_parents ps cs) ≡ length ps
unfolding mark_parents
parents_length ps [] = refl
parents_length ps (zero ∷ cs) = parents_length ps cs
parents_length ps (suc p ∷ cs) = parents_length (set ps p 1) cs ∙ length-set ps p 1

unmarked : (ps cs : List ℕ) (x : ℕ) → x < length ps → eqb (get_or (mark_parents ps cs) x 0) 0 ≡ eqb (get_or ps x 0) 0 && not (any (λ c. eqb c (suc x)) cs)
unfolding mark_parents any
unmarked ps [] x h = sym (and-true (eqb (get_or ps x 0) 0))
unmarked ps (zero ∷ cs) x h = rw (ne_eqb 0 (suc x) (λ e. omega arith)) (unmarked ps cs x h)
unmarked ps (suc p ∷ cs) x h = unmarked (set ps p 1) cs x (rw (length-set ps p 1) h) ∙ go (ℕ_discrete p x)
  where
    go : Dec (p ≡ x) → eqb (get_or (set ps p 1) x 0) 0 && not (any (λ c. eqb c (suc x)) cs)
        ≡ eqb (get_or ps x 0) 0 && not (eqb (suc p) (suc x) || any (λ c. eqb c (suc x)) cs)
    go (yes e) =
        let one : get_or (set ps p 1) x 0 ≡ 1 = ap (λ y. get_or (set ps p 1) y 0) (sym e) ∙ get_or-set_same ps p 1 0 (omega arith) in
        rw (one, eq-eqb (suc p) (suc x) (ap suc e)) (sym (and-false (eqb (get_or ps x 0) 0)))
    go (no n) = rw (get_or-set_other ps p x 1 0 (λ e. n (sym e)), ne_eqb (suc p) (suc x) (λ e. n (omega arith)))

-- the codes of the stages name the parents
child_same : (ss : List Status) (x : ℕ) → any (λ c. eqb c (suc x)) (map (λ s. under_code s.under) ss) ≡ any (λ s. within x s.under) ss
unfolding any
child_same [] x = refl
child_same (s ∷ ss) x = ap₂ (λ a b. a || b) (go s.under) (child_same ss x)
  where
    go : (u : Option ℕ) → eqb (under_code u) (suc x) ≡ within x u
    go none = ne_eqb 0 (suc x) (λ e. omega arith)
    go (some p) = sucs (ℕ_discrete p x)
      where
        sucs : Dec (p ≡ x) → eqb (suc p) (suc x) ≡ eqb p x
        sucs (yes e) = eq-eqb (suc p) (suc x) (ap suc e) ∙ sym (eq-eqb p x e)
        sucs (no n) = ne_eqb (suc p) (suc x) (λ e. n (omega arith)) ∙ sym (ne_eqb p x n)

-- the mark of a task
task_yes : (p b a : ℕ) → is_yes (task_mark p b a) ≡ eqb p 0 && (not (is_yes b) && is_yes a)
unfolding task_mark
task_yes p b a = go (eqb p 0) (is_yes b)
  where
    go : (x y : Bool) → is_yes (cond (not x || y) (code false₃) a) ≡ x && (not y && is_yes a)
    go false y = refl
    go true true = refl
    go true false = refl

module _ (hd : Heads) (before after : List Bool) where
  started_at : (x i : ℕ) (ss : List Status) → i < length ss
      → get_or (started_from hd.stages before after x ss) i false ≡ childless hd.stages (x + i) && rose before after (x + i)
  unfolding started_from
  started_at x i [] h = absurd (omega arith)
  started_at x zero (s ∷ ss) h = let z : x + 0 ≡ x = omega arith in rw z
  started_at x (suc i) (s ∷ ss) h = let z : x + suc i ≡ suc x + i = omega arith in rw z (started_at (suc x) i ss (omega arith))

  started_long : (x : ℕ) (ss : List Status) → length (started_from hd.stages before after x ss) ≡ length ss
  unfolding started_from
  started_long x [] = refl
  started_long x (s ∷ ss) = ap suc (started_long (suc x) ss)

side_at : (ms : List ℕ) (x : ℕ) → x < length ms → get_or (side_of ms) x false ≡ yes_at ms x
unfolding side_of
side_at [] x h = absurd (omega arith)
side_at (m ∷ ms) zero h = refl
side_at (m ∷ ms) (suc x) h = side_at ms x (omega arith)

task_long : (ps bs cs : List ℕ) → length ps ≡ length bs → length bs ≡ length cs → length (task_marks ps bs cs) ≡ length ps
unfolding task_marks
task_long [] bs cs h g = refl
task_long (p ∷ ps) [] cs h g = absurd (omega arith)
task_long (p ∷ ps) (b ∷ bs) [] h g = absurd (omega arith)
task_long (p ∷ ps) (b ∷ bs) (c ∷ cs) h g = ap suc (task_long ps bs cs (omega arith) (omega arith))

module _ (hd : Heads) (few : length (statuses hd) ≤ status_limit) (before after : List Bool) (lb : length before ≤ status_limit)
    (la : length after ≤ status_limit) where
  abbrev codes : List ℕ
  codes = map (λ s. under_code s.under) hd.stages

  abbrev parents : List ℕ
  parents = mark_parents (replicate status_limit 0) codes

  stages_few : length hd.stages ≤ status_limit
  unfolding statuses
  stages_few = omega (arith, length-append hd.stages hd.miles)

  marks_long : (bs : List Bool) → length bs ≤ status_limit → length (marked bs) ≡ status_limit
  unfolding marked
  marks_long bs h = padded_length status_limit 0 (map mark_code bs) (omega (arith, length-map bs mark_code))

  blank : (x : ℕ) → ◌≡◌ {A = ℕ} (get_or (replicate status_limit 0) x 0) 0
  unfolding padded
  blank x = padded_at {A = ℕ} status_limit 0 [] x

  tasks_side : side_of (take (length hd.stages) (task_marks parents (marked before) (marked after))) ≡ started hd.stages before after
  unfolding started childless side_of
  tasks_side = ext_get_or false _ _ (long ∙ sym (started_long hd before after 0 hd.stages)) each
    where
      full : length parents ≡ status_limit
      full = parents_length (replicate status_limit 0) codes

      whole : length (task_marks parents (marked before) (marked after)) ≡ status_limit
      whole = task_long parents (marked before) (marked after) (full ∙ sym (marks_long before lb)) (marks_long before lb ∙ sym (marks_long after la)) ∙ full

      long : length (side_of (take (length hd.stages) (task_marks parents (marked before) (marked after)))) ≡ length hd.stages
      long = length-map (take (length hd.stages) (task_marks parents (marked before) (marked after))) is_yes
          ∙ rw length-take (omega (arith, whole, stages_few))

      alone : (i : ℕ) → i < length hd.stages → eqb (get_or parents i 0) 0 ≡ not (any (λ s. within i s.under) hd.stages)
      alone i h = unmarked (replicate status_limit 0) codes i (omega (arith, stages_few)) ∙ ap (λ n. eqb n 0 && not (any (λ c. eqb c (suc i)) codes)) (blank i)
          ∙ ap not (child_same hd.stages i)

      each : (i : ℕ) → i < length (side_of (take (length hd.stages) (task_marks parents (marked before) (marked after))))
          → get_or (side_of (take (length hd.stages) (task_marks parents (marked before) (marked after)))) i false
          ≡ get_or (started_from hd.stages before after 0 hd.stages) i false
      each i h =
          let below : i < length hd.stages = omega (arith, long) in
          let zero_i : 0 + i ≡ i = omega arith in
          side_at (take (length hd.stages) (task_marks parents (marked before) (marked after))) i (rw length-take (omega (arith, whole, stages_few)))
          ∙ ap is_yes (get_or-take (length hd.stages) (task_marks parents (marked before) (marked after)) i 0 below
          ∙ (task_at parents (marked before) (marked after) i (omega (arith, full, stages_few)) (omega (arith, marks_long before lb, stages_few))
          (omega (arith, marks_long after la, stages_few))).1)
          ∙ task_yes (get_or parents i 0) (get_or (marked before) i 0) (get_or (marked after) i 0)
          ∙ ap₂ (λ a b. a && b) (alone i below)
          (ap₂ (λ a b. not a && b) (mark_yes before i) (mark_yes after i))
          ∙ sym (rw zero_i at (started_at hd before after 0 i hd.stages below))

  codes_taken : take (length hd.stages) (padded status_limit 0 (map (λ s. under_code s.under) (statuses hd))) ≡ codes
  unfolding padded statuses
  codes_taken =
      let code : Status → ℕ = λ s. under_code s.under in
      ap (λ l. take (length hd.stages) (l ++ replicate (status_limit - length (map code (hd.stages ++ hd.miles))) 0))
      (map-append code hd.stages hd.miles)
      ∙ ap (take (length hd.stages)) (append_assoc (map code hd.stages) (map code hd.miles) _)
      ∙ take_at (map code hd.stages) _ (length hd.stages) (length-map hd.stages code)

  -- of what `tasks_started` answers for the marks before and after
  pub tasks_are : (under : List ℕ) (n : ℕ) (bm am : List ℕ) (r : ℕ) → under ≡ padded status_limit 0 (map (λ s. under_code s.under) (statuses hd))
      → n ≡ length hd.stages
      → bm ≡ marked before → am ≡ marked after
      → r ≡ pattern (side_of (take n (task_marks (mark_parents (replicate status_limit 0) (take n under)) bm am)))
      → r ≡ pattern (started hd.stages before after)
  tasks_are under n bm am r u k b a e =
      e ∙ rw (u, k, b, a, codes_taken) (ap pattern tasks_side)
