-- Why, return by return: what is known there, and the answer that is asked.
use Prim.Native.Nat.{ℕ, zero, suc, ◌+◌, ◌-◌, ◌*◌, ◌/◌, ◌%◌, ◌≤◌, ◌<◌, min}
use mathlib.Core.Path.{◌≡◌, refl, sym, ◌∙◌, ap, ap₂}
use mathlib.Core.Bool.{Bool, true, false, not, cond}
use mathlib.Core.List.{List, [], ◌∷◌, ◌++◌, map, append-nil}
use native.Mathlib.Omega.{arith}
use native.Mathlib.Decide.{dec_le, ℕ_discrete}
use native.Mathlib.Nat.{add-zero, zero-add}
use native.Mathlib.Numerals.{add-one}
use mir.Val.{Fits}
use mir.Syntax.{w32, w64}
use borrow.Author.Tests.{eq-eqb, ne_eqb, lt-ltb, le-ltb, le-leb, lt-leb, not-true, not-false}
use lib.Dec.{eqb, ltb, leb}
use lib.ListN.{length, length-map, length-take, length-append, length-set, drop_of_length-le, get_or, take, drop, set, replicate}
use lib.Seq.{sets, length-sets, take-nil, drop-cons, get_or-take, get_or-set_same, get_or-set_other}
use Rattle.std.specs.Prelude.{Option}
use Rattle.meaning.specs.Text.{keep, joined, from}
use Rattle.meaning.specs.Refusal.{ROOM}
use Rattle.meaning.specs.Limits.{status_limit}
use Rattle.theory.specs.Lists.Members.{sets_append}
use Rattle.theory.specs.Lists.Padded.{padded, take_low, padded_take, laid}
use Rattle.limits.specs.Sizes.{node_room, test_room}
use Rattle.places.proofs.Callers.{lower_place}
use Rattle.graph_tests.specs.declared.Test.{Test}
use Rattle.step_plan.specs.declared.Plan.{Plan}
use Rattle.step_test.specs.declared.Moment.{Moment}
use Rattle.step_test.specs.declared.Stop.{Stop}
use Rattle.step_test.specs.Met.{stop_of}
use Rattle.step_run.specs.Run.{start_of, run_over}
use Rattle.step_sheet.specs.declared.Accepted.{Accepted}
use Rattle.reply.specs.declared.Reply.{Reply}
use Rattle.reply.specs.Answers.{refused_reply}
use Rattle.why_case.specs.declared.Spans.{Spans}
use Rattle.why_case.specs.declared.Facts.{Facts}
use Rattle.why_case.specs.declared.Status.{Status}
use Rattle.why_case.specs.Reasons.{first_status, LowNodes, spans_from, spans_of, kind_code, row_told, Low, node_of, closed_told, status_of, first_held, stops, told, between, reason, reasons_for, all_from, Put, rows_told, facts_of, list_of, reply_for, space_for, Ready}

-- WHERE THE ROWS OF A NODE STAND

module _ (p : Plan) (nodes : ℕ) where
  -- the nodes that are asked for
  abbrev Nodes : List ℕ
  Nodes = take nodes p.order

  -- the loop over the nodes: what is still to come
  pub record Spanning (from to : List ℕ) (end i : ℕ) : Type 0 where
    pub low : nodes ≡ min p.nodes node_room
    pub full : length p.order ≡ node_room
    pub begun : end ≡ start_of p i
    pub same : spans_of p ≡ spans_from p i (drop i Nodes) (record { from = from; to = to })

  pub span_start : length p.order ≡ node_room → nodes ≡ min p.nodes node_room → Spanning (replicate node_room 0) (replicate node_room 0) 0 0
  unfolding spans_of
  span_start l e = record {
    low = e;
    full = l;
    begun = refl;
    same = ap (λ o. spans_from p 0 o (record { from = replicate node_room 0; to = replicate node_room 0 }))
        (sym (take_low node_room p.nodes p.order l) ∙ ap (λ n. take n p.order) (sym e));
  }

  module _ (from to : List ℕ) (end i : ℕ) (inv : Spanning from to end i) where
    pub span_done : nodes ≤ i → record { from = from; to = to } ≡ spans_of p
    unfolding spans_from
    span_done h =
        let none : drop i Nodes ≡ [] = drop_of_length-le Nodes {i = i} (rw length-take (omega arith)) in
        sym (inv.same ∙ ap (λ o. spans_from p i o (record { from = from; to = to })) none)

    module _ (h : i < nodes) (k : ℕ) (is : k ≡ get_or p.order i 0) where
      pub span_node : LowNodes p → k < node_room
      span_node g = omega (arith, g i)

      pub span_next : (n : ℕ) → n ≡ i + 1 → Spanning (set from k end) (set to k (get_or p.ends i 0)) (get_or p.ends i 0) n
      unfolding spans_from
      span_next n z = rw (z, add-one) (record {
        low = inv.low;
        full = inv.full;
        begun = refl;
        same =
            let next : drop i Nodes ≡ k ∷ drop (suc i) Nodes =
            drop-cons Nodes i 0 (rw length-take (omega (arith, inv.low, inv.full)))
            ∙ ap (λ x. x ∷ drop (suc i) Nodes) (get_or-take nodes p.order i 0 h ∙ sym is) in
            inv.same
            ∙ ap (λ o. spans_from p i o (record { from = from; to = to })) next
            ∙ ap (λ e. spans_from p (suc i) (drop (suc i) Nodes) (record { from = set from k e; to = set to k (get_or p.ends i 0) })) (sym inv.begun);
      })

pub ruleset spanning = (span_start, span_done, lower_place, span_node, span_next)

-- ONE ROW

module _ (words : List ℕ) (m : Moment) (after : List ℕ) (t : Test) where
  pub row_implied : t.line ≡ 0 → 0 ≡ row_told words m after t
  unfolding row_told
  row_implied e = rw (eq-eqb t.line 0 e)

  pub row_written : (t.line ≡ 0 → ⊥) → (s : Option Stop) → s ≡ stop_of words m after t → (l k r : ℕ)
      → l ≡ t.line → k ≡ kind_code s → r ≡ l * 10 + k
      → r ≡ row_told words m after t
  unfolding row_told
  row_written n s is l k r e f z = z ∙ ap₂ (λ l k. l * 10 + k) e (f ∙ ap kind_code is) ∙ sym (rw (ne_eqb t.line 0 n))

pub ruleset rowing = (row_implied, row_written)

-- ALL ROWS

zeros_low : (n : ℕ) → Low (replicate n 0)
zeros_low zero j = omega arith
zeros_low (suc n) zero = omega arith
zeros_low (suc n) (suc j) = zeros_low n j

set_low : (rows : List ℕ) (j c : ℕ) → j < length rows → c < 1000000 → Low rows → Low (set rows j c)
set_low rows j c h l low i = go (ℕ_discrete i j)
  where
    go : Dec (i ≡ j) → get_or (set rows j c) i 0 < 1000000
    go (yes e) = rw (e, get_or-set_same rows j c 0 h) l
    go (no n) = rw (get_or-set_other rows j i c 0 n) (low i)

module _ (words : List ℕ) (m : Moment) (after : List ℕ) (all : List Test) where
  abbrev tells : Test → ℕ
  tells = row_told words m after

  -- the loop over the rows: what is still to come
  pub record Telling (rows : List ℕ) (j : ℕ) : Type 0 where
    pub long : length all ≡ test_room
    pub full : length rows ≡ test_room
    pub low : Low rows
    pub same : sets (replicate test_room 0) 0 (map tells all) ≡ sets rows j (map tells (drop j all))

  pub tell_start : length all ≡ test_room → Telling (replicate test_room 0) 0
  tell_start h = record {
    long = h;
    full = refl;
    low = zeros_low test_room;
    same = refl;
  }

  module _ (rows : List ℕ) (j : ℕ) (inv : Telling rows j) where
    pub tell_next : j < test_room → (d : Test) (c : ℕ) → c ≡ row_told words m after (get_or all j d) → c < 1000000 → (n : ℕ) → n ≡ j + 1
        → Telling (set rows j c) n
    tell_next h d c is l n z = rw (z, add-one) (record {
      long = inv.long;
      full = length-set rows j c ∙ inv.full;
      low = set_low rows j c (omega (arith, inv.full)) l inv.low;
      same =
          inv.same
          ∙ ap (λ ts. sets rows j (map tells ts)) (drop-cons all j d (omega (arith, inv.long)))
          ∙ ap (λ c. sets (set rows j c) (suc j) (map tells (drop (suc j) all))) (sym is);
    })

    pub tell_done : test_room ≤ j → rows ≡ map (row_told words m after) all
    unfolding padded
    tell_done h =
        let many : length (map tells all) ≡ test_room = length-map all tells ∙ inv.long in
        let none : drop j all ≡ [] = drop_of_length-le all {i = j} (omega (arith, inv.long)) in
        let full : test_room - length (map tells all) ≡ 0 = omega arith in
        sym (inv.same ∙ ap (λ ts. sets rows j (map tells ts)) none) ∙ laid test_room 0 (map tells all) (omega arith)
        ∙ ap (λ n. map tells all ++ replicate n 0) full ∙ append-nil (map tells all)

    pub tell_low : Low rows
    tell_low = inv.low

pub ruleset telling = (tell_start, tell_next, tell_done, tell_low)

-- WHAT IS LOOKED UP OF A STATUS

module _ (line under : ℕ) where
  pub closed_none : under ≡ 0 → 0 ≡ closed_told line under
  closed_none e = rw e

  pub closed_some : (under ≡ 0 → ⊥) → (w r : ℕ) → w ≡ under → r ≡ (line + w - 1) * 10 + 2 → r ≡ closed_told line under
  closed_some n w r e z = z ∙ ap (λ u. (line + u - 1) * 10 + 2) e ∙ go under n
    where
      go : (u : ℕ) → (u ≡ 0 → ⊥) → (line + u - 1) * 10 + 2 ≡ closed_told line u
      go zero n = absurd (n refl)
      go (suc p) n = omega arith

module _ (before : List ℕ) (x r : ℕ) where
  pub node_down : get_or before x 0 ≡ 2 → r ≡ x * 2 + 1 → r ≡ node_of before x
  node_down e z = z ∙ sym (rw (eq-eqb (get_or before x 0) 2 e))

  pub node_up : (get_or before x 0 ≡ 2 → ⊥) → r ≡ x * 2 → r ≡ node_of before x
  node_up n z = z ∙ sym (rw (ne_eqb (get_or before x 0) 2 n))

pub status_is : (f : Facts) (x k : ℕ) → k ≡ node_of f.before x → (from to closed : ℕ) → from ≡ get_or f.from k 0 → to ≡ get_or f.to k 0
    → closed ≡ closed_told f.line (get_or f.under x 0)
    → record { changed = not (eqb (get_or f.before x 0) (get_or f.after x 0)); from = from; to = to; closed = closed } ≡ status_of f x
unfolding status_of
status_is f x k is from to closed a b c = rw (a, b, c, is)

pub ruleset looking = (closed_none, closed_some, node_down, node_up, status_is)

-- ROWS BETWEEN TWO PLACES

-- rows behind the last are not asked for
module _ (rows : List ℕ) (to end j : ℕ) (low : end ≡ min to (length rows)) where
  between_next : j < end → between j to rows ≡ get_or rows j 0 ∷ between (suc j) to rows
  between_next h = let z : to - j ≡ suc (to - suc j) = omega arith in ap₂ take z (drop-cons rows j 0 (omega arith))

  between_none : end ≤ j → between j to rows ≡ []
  between_none h = go (dec_le to j)
    where
      go : Dec (to ≤ j) → between j to rows ≡ []
      go (yes g) = let z : to - j ≡ 0 = omega arith in ap (λ n. take n (drop j rows)) z
      go (no n) = ap (take (to - j)) (drop_of_length-le rows {i = j} (omega arith)) ∙ take-nil (to - j)

-- the loop to the first row that held: what is still to come
pub record Seeking (rows : List ℕ) (from to other end j : ℕ) : Type 0 where
  pub low : end ≡ min to (length rows)
  pub same : first_held (between from to rows) other ≡ first_held (between j to rows) other

module _ (rows : List ℕ) (from to other end : ℕ) where
  pub seek_start : end ≡ min to (length rows) → Seeking rows from to other end from
  seek_start e = record { low = e; same = refl }

  module _ (j : ℕ) (inv : Seeking rows from to other end j) where
    pub seek_none : end ≤ j → other ≡ first_held (between from to rows) other
    unfolding first_held
    seek_none h = sym (inv.same ∙ ap (λ cs. first_held cs other) (between_none rows to end j inv.low h))

    pub seek_place : j < end → j < length rows
    seek_place h = omega (arith, inv.low)

    module _ (h : j < end) where
      -- the row at the place
      here : first_held (between from to rows) other ≡ cond (eqb (get_or rows j 0 % 10) 1) (get_or rows j 0) (first_held (between (suc j) to rows) other)
      unfolding first_held
      here = inv.same ∙ ap (λ cs. first_held cs other) (between_next rows to end j inv.low h)

      pub seek_held : get_or rows j 0 % 10 ≡ 1 → get_or rows j 0 ≡ first_held (between from to rows) other
      seek_held e = sym (here ∙ rw (eq-eqb (get_or rows j 0 % 10) 1 e))

      pub seek_next : (get_or rows j 0 % 10 ≡ 1 → ⊥) → (n : ℕ) → n ≡ j + 1 → Seeking rows from to other end n
      seek_next e n z = rw (z, add-one) (record { low = inv.low; same = here ∙ rw (ne_eqb (get_or rows j 0 % 10) 1 e) })

pub low_at : (rows : List ℕ) (j : ℕ) → Low rows → get_or rows j 0 < 1000000
low_at rows j low = low j

pub ruleset seeking = (seek_start, seek_none, seek_place, seek_held, seek_next, low_at)

-- THE ROWS THAT WERE STOPPED

-- one member more, kept or not
module _ {A : Type 0} (p : A → Bool) (x : A) (xs : List A) where
  pub keep_hit : p x ≡ true → keep p (x ∷ xs) ≡ x ∷ keep p xs
  unfolding keep
  keep_hit e = rw (keep, e)

  pub keep_miss : p x ≡ false → keep p (x ∷ xs) ≡ keep p xs
  unfolding keep
  keep_miss e = rw (keep, e)

module _ (c : ℕ) (cs : List ℕ) where
  stops_more : 1 < c % 10 → stops (c ∷ cs) ≡ c ∷ stops cs
  unfolding stops
  stops_more h = keep_hit (λ c. ltb 1 (c % 10)) c cs (lt-ltb 1 (c % 10) h)

  stops_less : c % 10 ≤ 1 → stops (c ∷ cs) ≡ stops cs
  unfolding stops
  stops_less h = keep_miss (λ c. ltb 1 (c % 10)) c cs (le-ltb 1 (c % 10) h)

-- the loop over the rows: what is still to come
pub record Stopping (rows : List ℕ) (from to x : ℕ) (reasons₀ : List ℕ) (n₀ base end : ℕ) (reasons : List ℕ) (n j : ℕ) : Type 0 where
  pub low : end ≡ min to (length rows)
  pub based : base ≡ x * 10000
  pub room : n + length (stops (between j to rows)) ≤ test_room
  pub count : n₀ + length (stops (between from to rows)) ≡ n + length (stops (between j to rows))
  pub same : sets reasons₀ n₀ (map (reason x) (stops (between from to rows))) ≡ sets reasons n (map (reason x) (stops (between j to rows)))

module _ (rows : List ℕ) (from to x : ℕ) (reasons₀ : List ℕ) (n₀ base end : ℕ) where
  pub stop_start : end ≡ min to (length rows) → base ≡ x * 10000 → n₀ + length (stops (between from to rows)) ≤ test_room
      → Stopping rows from to x reasons₀ n₀ base end reasons₀ n₀ from
  stop_start e b h = record { low = e; based = b; room = h; count = refl; same = refl }

  module _ (reasons : List ℕ) (n j : ℕ) (inv : Stopping rows from to x reasons₀ n₀ base end reasons n j) where
    pub stop_done : end ≤ j → Put (map (reason x) (stops (between from to rows))) n₀ n reasons₀ reasons
    unfolding stops keep
    stop_done h =
        let none = between_none rows to end j inv.low h in
        record {
          count = sym (rw length-map (inv.count ∙ ap (λ cs. n + length (stops cs)) none ∙ add-zero n));
          list = sym (inv.same ∙ ap (λ cs. sets reasons n (map (reason x) (stops cs))) none);
        }

    pub stop_place : j < end → j < length rows
    stop_place h = omega (arith, inv.low)

    module _ (h : j < end) where
      pub stop_pass : get_or rows j 0 % 10 ≤ 1 → (m : ℕ) → m ≡ j + 1 → Stopping rows from to x reasons₀ n₀ base end reasons n m
      stop_pass g m z =
          let next : stops (between j to rows) ≡ stops (between (suc j) to rows) = ap stops (between_next rows to end j inv.low h)
          ∙ stops_less (get_or rows j 0) (between (suc j) to rows) g in
          rw (z, add-one) (record {
            low = inv.low;
            based = inv.based;
            room = rw (← next) inv.room;
            count = inv.count ∙ ap (λ cs. n + length cs) next;
            same = inv.same ∙ ap (λ cs. sets reasons n (map (reason x) cs)) next;
          })

      module _ (g : 1 < get_or rows j 0 % 10) where
        stop_next : stops (between j to rows) ≡ get_or rows j 0 ∷ stops (between (suc j) to rows)
        stop_next = ap stops (between_next rows to end j inv.low h) ∙ stops_more (get_or rows j 0) (between (suc j) to rows) g

        pub stop_room : n < test_room
        stop_room = omega (arith, inv.room, ap length stop_next)

        pub stop_size : (k : ℕ) → k ≡ n * 4 → Fits w64 k
        stop_size k e = omega (arith, stop_room)

        pub stop_sum : Low rows → x < status_limit → (r : ℕ) → r ≡ base + get_or rows j 0 → Fits w32 r
        stop_sum low l r e = omega (arith, low j, inv.based)

        pub stop_more : (k : ℕ) → k ≡ n + 1 → Fits w64 k
        stop_more k e = omega (arith, stop_room)

        pub stop_put : (r k m : ℕ) → r ≡ base + get_or rows j 0 → k ≡ n + 1 → m ≡ j + 1 → Stopping rows from to x reasons₀ n₀ base end (set reasons n r) k m
        stop_put r k m e y z =
            let rest = stops (between (suc j) to rows) in
            let sum : n + suc (length rest) ≡ suc n + length rest = omega arith in
            let total : n + length (stops (between j to rows)) ≡ suc n + length rest = ap (λ cs. n + length cs) stop_next ∙ sum in
            rw (z, y, add-one j, add-one n) (record {
              low = inv.low;
              based = inv.based;
              room = rw (← total) inv.room;
              count = inv.count ∙ total;
              same =
                  inv.same
                  ∙ ap (λ cs. sets reasons n (map (reason x) cs)) stop_next
                  ∙ ap (λ v. sets (set reasons n v) (suc n) (map (reason x) rest)) (sym (e ∙ ap (λ b. b + get_or rows j 0) inv.based));
            })

pub ruleset stopping = (stop_start, stop_done, stop_place, stop_pass, stop_room, stop_size, stop_sum, stop_more, stop_put)

-- ONE STATUS

module _ (s : Status) (rows : List ℕ) (x : ℕ) where
  module _ (e : not s.changed ≡ true) where
    stayed : reasons_for s rows x ≡ map (reason x) (stops (between s.from s.to rows))
    unfolding reasons_for
    stayed = rw (not-true s.changed e)

    pub status_room : (n : ℕ) → n + length (reasons_for s rows x) ≤ test_room → n + length (stops (between s.from s.to rows)) ≤ test_room
    status_room n h = omega (arith, ap length stayed, length-map (stops (between s.from s.to rows)) (reason x))

    pub status_stayed : (n r : ℕ) (was now : List ℕ) → Put (map (reason x) (stops (between s.from s.to rows))) n r was now
        → Put (reasons_for s rows x) n r was now
    status_stayed n r was now p = rw stayed p

  module _ (e : not s.changed ≡ false) (c : ℕ) (is : c ≡ first_held (between s.from s.to rows) s.closed) where
    moved : reasons_for s rows x ≡ map (reason x) (told c)
    unfolding reasons_for
    moved = rw (not-false s.changed e, ← is)

    pub status_none : c ≡ 0 → (n : ℕ) (was : List ℕ) → Put (reasons_for s rows x) n n was was
    status_none z n was =
        let none : reasons_for s rows x ≡ [] = moved ∙ ap (λ c. map (reason x) (told c)) z in
        rw none (record { count = sym (add-zero n); list = refl })

    module _ (nz : c ≡ 0 → ⊥) where
      one : reasons_for s rows x ≡ reason x c ∷ []
      one = moved ∙ go c nz
        where
          go : (c : ℕ) → (c ≡ 0 → ⊥) → map (reason x) (told c) ≡ reason x c ∷ []
          go zero n = absurd (n refl)
          go (suc c) n = refl

      pub status_place : (n : ℕ) → n + length (reasons_for s rows x) ≤ test_room → n < test_room
      status_place n h = omega (arith, ap length one)

      pub status_put : (n : ℕ) (was : List ℕ) (r k : ℕ) → r ≡ x * 10000 + c → k ≡ n + 1 → Put (reasons_for s rows x) n k was (set was n r)
      status_put n was r k e z = rw one (record { count = z; list = ap (set was n) e })

pub status_sum : (x c r : ℕ) → x < status_limit → c < 1000000 → r ≡ x * 10000 + c → Fits w32 r
status_sum x c r h g z = omega arith

pub ruleset putting = (status_room, status_stayed, status_none, status_place, status_put, status_sum)

-- ALL STATUSES

module _ (f : Facts) (rows : List ℕ) where
  all_none : (x : ℕ) → all_from f rows x 0 ≡ []
  unfolding all_from from joined
  all_none x = refl

  all_more : (x n : ℕ) → all_from f rows x (suc n) ≡ reasons_for (status_of f x) rows x ++ all_from f rows (suc x) n
  unfolding all_from from joined
  all_more x n = refl

-- the loop over the statuses: what is still to come
pub record Listing (f : Facts) (rows : List ℕ) (statuses : ℕ) (reasons₀ reasons : List ℕ) (n x : ℕ) : Type 0 where
  pub few : statuses ≤ status_limit
  pub within : x ≤ statuses
  pub room : n + length (all_from f rows x (statuses - x)) ≤ test_room
  pub count : length (all_from f rows 0 statuses) ≡ n + length (all_from f rows x (statuses - x))
  pub same : sets reasons₀ 0 (all_from f rows 0 statuses) ≡ sets reasons n (all_from f rows x (statuses - x))

module _ (f : Facts) (rows : List ℕ) (statuses : ℕ) (reasons₀ : List ℕ) where
  pub list_start : statuses ≤ status_limit → length (all_from f rows 0 statuses) ≤ test_room → Listing f rows statuses reasons₀ reasons₀ 0 0
  list_start h g =
      let z : statuses - 0 ≡ statuses = omega arith in
      record { few = h; within = omega arith; room = rw (zero-add, z) g; count = sym (rw (zero-add, z)); same = sym (rw z) }

  module _ (reasons : List ℕ) (n x : ℕ) (inv : Listing f rows statuses reasons₀ reasons n x) where
    pub list_done : statuses ≤ x → Put (all_from f rows 0 statuses) 0 n reasons₀ reasons
    list_done h =
        let z : statuses - x ≡ 0 = omega arith in
        let none : all_from f rows x (statuses - x) ≡ [] = ap (all_from f rows x) z ∙ all_none f rows x in
        record {
          count = sym (zero-add (length (all_from f rows 0 statuses)) ∙ inv.count ∙ ap (λ l. n + length l) none ∙ add-zero n);
          list =
              sym (inv.same ∙ ap (sets reasons n) none);
        }

    module _ (h : x < statuses) where
      pub list_place : x < status_limit
      list_place = omega (arith, inv.few)

      list_next : all_from f rows x (statuses - x) ≡ reasons_for (status_of f x) rows x ++ all_from f rows (suc x) (statuses - suc x)
      list_next = let z : statuses - x ≡ suc (statuses - suc x) = omega arith in ap (all_from f rows x) z ∙ all_more f rows x (statuses - suc x)

      module _ (s : Status) (is : s ≡ status_of f x) where
        pub list_room_lem : n + length (reasons_for s rows x) ≤ test_room
        list_room_lem = rw is (omega (
          arith,
          inv.room,
          ap length list_next,
          length-append (reasons_for (status_of f x) rows x) (all_from f rows (suc x) (statuses - suc x)),
        ))

        pub list_again : (k : ℕ) (next : List ℕ) → Put (reasons_for s rows x) n k reasons next → (y : ℕ) → y ≡ x + 1 → Listing f rows statuses reasons₀ next k y
        list_again k next p y z =
            let here = reasons_for (status_of f x) rows x in
            let rest = all_from f rows (suc x) (statuses - suc x) in
            let q : Put here n k reasons next = rw is at p in
            let total : n + length (all_from f rows x (statuses - x)) ≡ k + length rest =
            omega (arith, ap length list_next, length-append here rest, q.count) in
            rw (z, add-one) (record {
              few = inv.few;
              within = h;
              room = rw (← total) inv.room;
              count = inv.count ∙ total;
              same =
                  inv.same
                  ∙ ap (sets reasons n) list_next
                  ∙ sym (sets_append here rest reasons n)
                  ∙ ap₂ (λ l i. sets l i rest) (sym q.list) (sym q.count);
            })

pub ruleset listing = (list_start, list_done, list_place, list_room_lem, list_again)

-- A SHEET AT A MOMENT

module _ (a : Accepted) (m : Moment) (ready : Ready a m) where
  pub sheet_nodes : LowNodes a.plan
  sheet_nodes = ready.low_nodes

  pub sheet_half : a.plan.nodes / 2 ≤ status_limit
  sheet_half = omega (arith, ready.few_nodes)

  pub sheet_line : 2 + a.heads.fields + a.heads.events ≤ first_status
  sheet_line = omega (arith, ready.sized.few_fields, ready.sized.few_events)

  module _ (marks : List ℕ) (ran : marks ≡ run_over a.words m a.plan) (rows : List ℕ) (tells : rows ≡ map (row_told a.words m marks) a.plan.rows)
      (s : Spans) (spans : s ≡ spans_of a.plan) where
    abbrev facts : Facts
    facts = record { before = m.before; after = marks; from = s.from; to = s.to; under = a.heads.under; line = 2 + a.heads.fields + a.heads.events }

    same : all_from facts rows 0 (a.plan.nodes / 2) ≡ list_of a m
    unfolding list_of facts_of rows_told
    same = rw (tells, ran, spans)

    pub sheet_few : length (all_from facts rows 0 (a.plan.nodes / 2)) ≤ test_room
    sheet_few = rw same ready.few

    pub sheet_list : (r : ℕ) (was now : List ℕ) → Put (all_from facts rows 0 (a.plan.nodes / 2)) 0 r was now → Put (list_of a m) 0 r was now
    sheet_list r was now p = rw same at p

pub ruleset gathering = (sheet_nodes, sheet_half, sheet_line, sheet_few, sheet_list)

-- THE ANSWER

pub put_long : (l : List ℕ) (n : ℕ) (list : List ℕ) → Put l 0 n (replicate test_room 0) list → length list ≡ test_room
put_long l n list p = ap length p.list ∙ length-sets (replicate test_room 0) 0 l

module _ (a : Accepted) (m : Moment) (ready : Ready a m) (n : ℕ) (list : List ℕ) (put : Put (list_of a m) 0 n (replicate test_room 0) list) where
  count_is : n ≡ length (list_of a m)
  count_is = put.count ∙ zero-add (length (list_of a m))

  pub why_fits : n ≤ length list
  why_fits = omega (arith, count_is, ready.few, put_long (list_of a m) n list put)

  module _ (lent : List ℕ) where
    module _ (h : length lent < n) where
      too_long : leb (length (list_of a m)) (length lent) ≡ false
      too_long = lt-leb (length (list_of a m)) (length lent) (omega (arith, count_is))

      pub why_room_lem : (r : Reply) → r ≡ refused_reply ROOM 0 0 → r ≡ reply_for a m (length lent)
      unfolding reply_for
      why_room_lem r e = e ∙ sym (rw too_long)

      pub why_room_space : lent ≡ space_for a m lent
      unfolding space_for
      why_room_space = sym (rw too_long)

    module _ (h : n ≤ length lent) where
      fits : leb (length (list_of a m)) (length lent) ≡ true
      fits = le-leb (length (list_of a m)) (length lent) (omega (arith, count_is))

      pub why_reply_lem : ◌≡◌ {A = Reply} (record { number = 0; paper = 0; line = 0; count = n; tasks = 0 }) (reply_for a m (length lent))
      unfolding reply_for
      why_reply_lem = rw count_is (sym (rw fits))

      pub why_space_lem : (now : List ℕ) → now ≡ take n list ++ drop n lent → now ≡ space_for a m lent
      unfolding space_for padded
      why_space_lem now e =
          let front : take n list ≡ list_of a m = ap₂ take count_is (put.list ∙ laid test_room 0 (list_of a m) ready.few)
          ∙ padded_take test_room 0 (list_of a m) in
          e ∙ ap₂ (λ l k. l ++ drop k lent) front count_is ∙ sym (rw fits)

pub ruleset answering = (put_long, why_fits, why_room_lem, why_room_space, why_reply_lem, why_space_lem)
