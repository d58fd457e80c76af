-- Laws of the functions, return by return: values put in, patterns, tasks.
use Prim.Native.Nat.{ℕ, zero, suc, ◌+◌, ◌-◌, ◌*◌, ◌≤◌, ◌<◌, min}
use mathlib.Core.Path.{◌≡◌, refl, sym, ap, ap₂, ◌∙◌}
use mathlib.Core.Bool.{Bool, true, false, cond}
use mathlib.Core.List.{List, [], ◌∷◌, ◌++◌}
use native.Mathlib.Omega.{arith}
use native.Mathlib.Numerals.{add-one}
use mir.Val.{Fits}
use mir.Syntax.{w32}
use lib.ListN.{length, length-map, length-take, length-drop, length-set, drop_of_length-le, get_or, take, drop, set, replicate}
use lib.Seq.{drop-cons, take-suc, take-suc-set, get_or-take}
use Rattle.meaning.specs.Step.{pattern}
use Rattle.meaning.specs.Limits.{field_limit, status_limit}
use Rattle.marks.specs.Codes.{is_yes, yes_at, side_of}
use Rattle.step_moment.specs.Tables.{put_codes, mark_parent, mark_parents, task_mark, task_marks}

-- what is left of the first n members, from a place before the n-th on
rest_cons : (n : ℕ) (l : List ℕ) (i : ℕ) → i < n → i < length l → drop i (take n l) ≡ get_or l i 0 ∷ drop (suc i) (take n l)
rest_cons n l i h g = drop-cons (take n l) i 0 (rw length-take (omega arith)) ∙ ap (λ x. x ∷ drop (suc i) (take n l)) (get_or-take n l i 0 h)

rest_none : (n : ℕ) (l : List ℕ) (i : ℕ) → n ≤ i → drop i (take n l) ≡ []
rest_none n l i h = drop_of_length-le (take n l) {i = i} (rw length-take (omega arith))

-- VALUES

-- what is left is put into what was reached
pub record Putting (fields puts values : List ℕ) (count : ℕ) (after : List ℕ) (i : ℕ) : Type 0 where
  pub same : put_codes (take count fields) puts values ≡ put_codes (drop i (take count fields)) (drop i puts) after

module _ (fields puts values : List ℕ) (count : ℕ) where
  module _ (after : List ℕ) (i : ℕ) (inv : Putting fields puts values count after i) (long : length fields ≡ field_limit) where
    pub put_done : min count field_limit ≤ i → after ≡ put_codes (take count fields) puts values
    unfolding put_codes
    put_done h =
        let none : drop i (take count fields) ≡ [] = drop_of_length-le (take count fields) {i = i} (rw length-take (omega arith)) in
        sym (inv.same ∙ ap (λ fs. put_codes fs (drop i puts) after) none)

    pub put_more : i < min count field_limit → length puts ≡ field_limit → (a : List ℕ) → a ≡ set after (get_or fields i 0) (get_or puts i 0) → (n : ℕ)
        → n ≡ i + 1
        → Putting fields puts values count a n
    unfolding put_codes
    put_more h wide a e n z = rw (z, add-one, e) (record {
      same = inv.same ∙ ap₂ (λ fs vs. put_codes fs vs after) (rest_cons count fields i (omega arith) (omega arith)) (drop-cons puts i 0 (omega arith));
    })

pub ruleset putting = (put_done, put_more)

-- PATTERNS

-- the least number that k statuses do not reach
abbrev above : ℕ → ℕ
above zero = 1
above (suc k) = 2 * above k

above_up : (j k : ℕ) → j ≤ k → above j ≤ above k
above_up zero zero h = omega arith
above_up zero (suc k) h = let z = above_up zero k (omega arith) in omega arith
above_up (suc j) zero h = absurd (omega arith)
above_up (suc j) (suc k) h = let z = above_up j k (omega arith) in omega arith

pattern_below : (bs : List Bool) → pattern bs < above (length bs)
unfolding pattern
pattern_below [] = omega arith
pattern_below (true ∷ bs) = let z = pattern_below bs in omega arith
pattern_below (false ∷ bs) = let z = pattern_below bs in omega arith

pattern_cons : (b : Bool) (bs : List Bool) → pattern (b ∷ bs) ≡ pattern bs * 2 + cond b 1 0
unfolding pattern
pattern_cons true bs = omega arith
pattern_cons false bs = omega arith

-- the pattern of the statuses from a place on
pub record Counting (marks : List ℕ) (n p i : ℕ) : Type 0 where
  pub within : i ≤ n
  pub same : p ≡ pattern (side_of (drop i (take n marks)))

module _ (marks : List ℕ) (n : ℕ) where
  pub count_start : Counting marks n 0 n
  unfolding side_of pattern
  count_start = record { within = omega arith; same = sym (ap (λ l. pattern (side_of l)) (rest_none n marks n (omega arith))) }

  pub count_done : (p i : ℕ) → Counting marks n p i → i ≤ 0 → p ≡ pattern (side_of (take n marks))
  count_done p i inv h = let z : i ≡ 0 = omega arith in inv.same ∙ ap (λ i. pattern (side_of (drop i (take n marks)))) z

  module _ (p i : ℕ) (inv : Counting marks n p i) (few : n ≤ status_limit) (more : 0 < i) where
    side_long : length (side_of (drop i (take n marks))) ≤ 31
    unfolding side_of
    side_long = rw (length-map, length-drop, length-take) (omega (arith, inv.within))

    small : p < 2147483648
    small = let z = pattern_below (side_of (drop i (take n marks))) in let y = above_up (length (side_of (drop i (take n marks)))) 31 side_long in
        omega (arith, inv.same)

    pub count_double : Fits w32 (p * 2)
    count_double = omega (arith, small)

    pub count_sum : (m b q : ℕ) → b ≡ cond (is_yes m) 1 0 → q ≡ p * 2 → Fits w32 (q + b)
    count_sum m b q e z = let y = go (is_yes m) in omega (arith, small)
      where
        go : (b : Bool) → cond b 1 0 ≤ 1
        go true = omega arith
        go false = omega arith

    pub count_more : length marks ≡ status_limit → (j : ℕ) → j ≡ i - 1 → (b : ℕ) → b ≡ cond (yes_at marks j) 1 0 → (r : ℕ) → r ≡ p * 2 + b
        → Counting marks n r j
    unfolding side_of
    count_more long j e b f r s =
        let z : i ≡ suc j = omega arith in
        let rest : drop j (take n marks) ≡ get_or marks j 0 ∷ drop i (take n marks) =
        rest_cons n marks j (omega (arith, inv.within)) (omega (arith, inv.within)) ∙ ap (λ i. get_or marks j 0 ∷ drop i (take n marks)) (sym z) in
        record {
          within = omega (arith, inv.within);
          same = s ∙ ap₂ (λ p b. p * 2 + b) inv.same f
              ∙ sym (ap (λ l. pattern (side_of l)) rest ∙ pattern_cons (yes_at marks j) (side_of (drop i (take n marks))));
        }

pub ruleset counting = (count_start, count_done, count_double, count_sum, count_more)

-- PARENTS

-- those of the codes left are still to be marked
pub record Marking (under : List ℕ) (stages : ℕ) (parents : List ℕ) (x : ℕ) : Type 0 where
  pub same : mark_parents (replicate status_limit 0) (take stages under) ≡ mark_parents parents (drop x (take stages under))

module _ (under : List ℕ) (stages : ℕ) where
  module _ (parents : List ℕ) (x : ℕ) (inv : Marking under stages parents x) where
    pub mark_done : stages ≤ x → parents ≡ mark_parents (replicate status_limit 0) (take stages under)
    unfolding mark_parents
    mark_done h = sym (inv.same ∙ ap (mark_parents parents) (rest_none stages under x h))

    pub mark_more : length under ≡ status_limit → stages ≤ status_limit → x < stages → (ps : List ℕ) → ps ≡ mark_parent parents (get_or under x 0) → (n : ℕ)
        → n ≡ x + 1 → Marking under stages ps n
    unfolding mark_parents
    mark_more long few h ps e n z = rw (z, add-one, e) (record { same = inv.same ∙ ap (mark_parents parents) (rest_cons stages under x h (omega arith)) })

pub ruleset marking = (mark_done, mark_more)

-- TASKS

pub task_at : (ps bs cs : List ℕ) (x : ℕ) → x < length ps → x < length bs → x < length cs
    → (x < length (task_marks ps bs cs)) × (get_or (task_marks ps bs cs) x 0 ≡ task_mark (get_or ps x 0) (get_or bs x 0) (get_or cs x 0))
unfolding task_marks
task_at [] bs cs x h g l = absurd (omega arith)
task_at (p ∷ ps) [] cs x h g l = absurd (omega arith)
task_at (p ∷ ps) (b ∷ bs) [] x h g l = absurd (omega arith)
task_at (p ∷ ps) (b ∷ bs) (c ∷ cs) zero h g l = (omega arith, refl)
task_at (p ∷ ps) (b ∷ bs) (c ∷ cs) (suc x) h g l = let z = task_at ps bs cs x (omega arith) (omega arith) (omega arith) in (omega (arith, z.0), z.1)

-- the tasks of the first stages
pub record Tasking (parents before after : List ℕ) (stages : ℕ) (tasks : List ℕ) (x : ℕ) : Type 0 where
  pub within : x ≤ stages
  pub long : length tasks ≡ status_limit
  pub same : take x tasks ≡ take x (task_marks parents before after)

module _ (parents before after : List ℕ) (stages : ℕ) where
  pub tasks_start : (tasks : List ℕ) → length tasks ≡ status_limit → Tasking parents before after stages tasks 0
  tasks_start tasks l = record { within = omega arith; long = l; same = refl }

  module _ (tasks : List ℕ) (x : ℕ) (inv : Tasking parents before after stages tasks x) where
    pub tasks_more : stages ≤ status_limit → x < stages → length parents ≡ status_limit → length before ≡ status_limit → length after ≡ status_limit → (m : ℕ)
        → m ≡ task_mark (get_or parents x 0) (get_or before x 0) (get_or after x 0)
        → (n : ℕ) → n ≡ x + 1 → Tasking parents before after stages (set tasks x m) n
    tasks_more few h lp lb la m e n z =
        let t = task_at parents before after x (omega arith) (omega arith) (omega arith) in
        rw (z, add-one) (record {
          within = omega arith;
          long = length-set tasks x m ∙ inv.long;
          same = take-suc-set tasks x m (omega (arith, inv.long)) ∙ ap₂ (λ l y. l ++ (y ∷ [])) inv.same (e ∙ sym t.1)
              ∙ sym (take-suc (task_marks parents before after) x 0 t.0);
        })

    pub tasks_done : stages ≤ x → (ps : List ℕ) → parents ≡ ps → (p : ℕ) → p ≡ pattern (side_of (take stages tasks))
        → p ≡ pattern (side_of (take stages (task_marks ps before after)))
    tasks_done h ps is p e = let z : x ≡ stages = omega (arith, inv.within) in e ∙ ap (λ l. pattern (side_of l)) (rw z at inv.same)
        ∙ ap (λ q. pattern (side_of (take stages (task_marks q before after)))) is

pub ruleset tasking = (tasks_start, tasks_more, tasks_done)
