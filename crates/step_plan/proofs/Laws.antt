-- Laws of the plan: the tests of a node put behind those listed, and one node after another.
use Prim.Native.Nat.{ℕ, zero, suc, ◌+◌, ◌-◌, ◌≤◌, ◌<◌, min}
use mathlib.Core.Path.{◌≡◌, refl, sym, ap, ap₂, subst, ◌∙◌}
use mathlib.Core.Bool.{Bool, true, false, ◌&&◌, false≢true}
use mathlib.Core.List.{List, [], ◌∷◌, ◌++◌}
use native.Mathlib.Omega.{arith}
use native.Mathlib.Nat.{sub-zero, zero-sub}
use native.Mathlib.Numerals.{add-one}
use native.Mathlib.Decide.{dec_lt}
use mir.Val.{Fits}
use mir.Syntax.{w8}
use lib.Dec.{eqb, ltb}
use lib.ListN.{length, length-take, drop_of_length-le, get_or, take, drop, set, replicate}
use lib.Seq.{sets, take-nil, drop-cons, get_or-take}
use borrow.Author.Tests.{lt-ltb, le-ltb, ltb-true}
use Rattle.meaning.specs.Text.{keep, joined}
use Rattle.theory.specs.Lists.Padded.{padded, take_low, laid}
use Rattle.limits.specs.Sizes.{node_room, test_room}
use Rattle.graph_tests.specs.declared.Test.{Test}
use Rattle.graph_tests.specs.Table.{no_test, rows_for}
use Rattle.step_plan.specs.Plan.{listed_by, ends_from, as_plan}
use Rattle.step_plan.specs.Listed.{Listed, none_listed, add_if, add_all}

-- THE TESTS OF ONE NODE

module _ (t : Test) (ts : List Test) (k : ℕ) where
  pub rows_hit : eqb t.node k ≡ true → rows_for (t ∷ ts) k ≡ t ∷ rows_for ts k
  unfolding rows_for keep
  rows_hit e = rw (keep, e)

  pub rows_miss : eqb t.node k ≡ false → rows_for (t ∷ ts) k ≡ rows_for ts k
  unfolding rows_for keep
  rows_miss e = rw (keep, e)

-- a test that is passed: of another node, or there is no room
add_passed : (t : Test) (ts : List Test) (k : ℕ) (l : Listed) → (eqb t.node k && ltb l.count test_room) ≡ false
    → add_all l (rows_for (t ∷ ts) k) ≡ add_all l (rows_for ts k)
unfolding add_all
add_passed t ts k l e = go (eqb t.node k) refl e
  where
    go : (b : Bool) → eqb t.node k ≡ b → (b && ltb l.count test_room) ≡ false → add_all l (rows_for (t ∷ ts) k) ≡ add_all l (rows_for ts k)
    go true f h = ap (add_all l) (rows_hit t ts k f) ∙ ap (λ b. add_all (add_if b l t) (rows_for ts k)) h
    go false f h = rw (rows_miss t ts k f)

-- a test that is put down
add_put : (t : Test) (ts : List Test) (k : ℕ) (l : Listed) → (eqb t.node k && ltb l.count test_room) ≡ true
    → (l.count < test_room) × (add_all l (rows_for (t ∷ ts) k) ≡ add_all (record { rows = set l.rows l.count t; count = suc l.count }) (rows_for ts k))
unfolding add_all
add_put t ts k l e = go (eqb t.node k) refl e
  where
    go : (b : Bool) → eqb t.node k ≡ b → (b && ltb l.count test_room) ≡ true
        → (l.count < test_room) × (add_all l (rows_for (t ∷ ts) k) ≡ add_all (record { rows = set l.rows l.count t; count = suc l.count }) (rows_for ts k))
    go true f h = (ltb-true l.count test_room h, ap (add_all l) (rows_hit t ts k f) ∙ ap (λ b. add_all (add_if b l t) (rows_for ts k)) h)
    go false f h = absurd (false≢true h)

-- ONE NODE AFTER ANOTHER

-- how many tests are then listed
add_count : (l : Listed) (ts : List Test) → l.count ≤ test_room → (add_all l ts).count ≡ min test_room (l.count + length ts)
unfolding add_all
add_count l [] h = omega arith
add_count l (t ∷ ts) h = go (dec_lt l.count test_room) (λ m g. add_count m ts g)
  where
    go : Dec (l.count < test_room) → ((m : Listed) → m.count ≤ test_room → (add_all m ts).count ≡ min test_room (m.count + length ts))
        → (add_all l (t ∷ ts)).count ≡ min test_room (l.count + length (t ∷ ts))
    go (yes k) ih =
        let e = ih (record { rows = set l.rows l.count t; count = suc l.count }) (omega arith) in
        ap (λ b. (add_all (add_if b l t) ts).count) (lt-ltb l.count test_room k) ∙ e ∙ omega arith
    go (no k) ih = let e = ih l h in ap (λ b. (add_all (add_if b l t) ts).count) (le-ltb l.count test_room (omega arith)) ∙ e ∙ omega arith

-- and where they stand
add_rows : (l : Listed) (ts : List Test) → l.count ≤ test_room → (add_all l ts).rows ≡ sets l.rows l.count (take (test_room - l.count) ts)
unfolding add_all
add_rows l [] h = ap (sets l.rows l.count) (sym (take-nil (test_room - l.count)))
add_rows l (t ∷ ts) h = go (dec_lt l.count test_room) (λ m g. add_rows m ts g)
  where
    go : Dec (l.count < test_room) → ((m : Listed) → m.count ≤ test_room → (add_all m ts).rows ≡ sets m.rows m.count (take (test_room - m.count) ts))
        → (add_all l (t ∷ ts)).rows ≡ sets l.rows l.count (take (test_room - l.count) (t ∷ ts))
    go (yes k) ih =
        let z : suc (test_room - suc l.count) ≡ test_room - l.count = omega arith in
        ap (λ b. (add_all (add_if b l t) ts).rows) (lt-ltb l.count test_room k)
        ∙ ih (record { rows = set l.rows l.count t; count = suc l.count }) (omega arith)
        ∙ ap (λ n. sets l.rows l.count (take n (t ∷ ts))) z
    go (no k) ih =
        let z : test_room - l.count ≡ 0 = omega arith in
        ap (λ b. (add_all (add_if b l t) ts).rows) (le-ltb l.count test_room (omega arith))
        ∙ ih l h
        ∙ ap (λ n. sets l.rows l.count (take n ts)) z
        ∙ ap (λ n. sets l.rows l.count (take n (t ∷ ts))) (sym z)

-- one list behind another
add_append : (l : Listed) (xs ys : List Test) → add_all l (xs ++ ys) ≡ add_all (add_all l xs) ys
unfolding add_all
add_append l [] ys = refl
add_append l (x ∷ xs) ys = add_append (add_if (ltb l.count test_room) l x) xs ys

-- an array of one value, with a list laid over its start
take_replicate : {A : Type 0} (d : A) (n m : ℕ) → n ≤ m → take n (replicate m d) ≡ replicate n d
take_replicate d zero m h = refl
take_replicate d (suc n) zero h = absurd (omega arith)
take_replicate d (suc n) (suc m) h = ap (λ r. d ∷ r) (take_replicate d n m (omega arith))

drop_replicate : {A : Type 0} (d : A) (n m : ℕ) → drop n (replicate m d) ≡ replicate (m - n) d
drop_replicate d zero m = ap (λ k. replicate k d) (sym (sub-zero m))
drop_replicate d (suc n) zero = ap (λ k. replicate k d) (sym (zero-sub (suc n)))
drop_replicate d (suc n) (suc m) = let z : m - n ≡ suc m - suc n = omega arith in drop_replicate d n m ∙ ap (λ k. replicate k d) z

laid_over : {A : Type 0} (d : A) (xs : List A) (n m : ℕ) → n ≤ m → take n (xs ++ replicate m d) ≡ take n xs ++ drop (length (take n xs)) (replicate n d)
laid_over d [] zero m h = refl
laid_over d [] (suc n) m h = take_replicate d (suc n) m h
laid_over d (x ∷ xs) zero m h = refl
laid_over d (x ∷ xs) (suc n) m h = ap (λ r. x ∷ r) (laid_over d xs n m (omega arith))

-- where tests end: as many places as nodes
pub ends_length : (n : ℕ) (all : List Test) (o : List ℕ) → length (ends_from n all o) ≡ length o
unfolding ends_from
ends_length n all [] = refl
ends_length n all (k ∷ o) = ap suc (ends_length (min test_room (n + length (rows_for all k))) all o)

ends_more : (ends : List ℕ) (i n : ℕ) (all : List Test) (k : ℕ) (o : List ℕ) (m : ℕ) → min test_room (n + length (rows_for all k)) ≡ m
    → sets ends i (ends_from n all (k ∷ o)) ≡ sets (set ends i m) (suc i) (ends_from m all o)
unfolding ends_from
ends_more ends i n all k o m e = ap (λ m. sets (set ends i m) (suc i) (ends_from m all o)) e

ends_none : (ends : List ℕ) (i n : ℕ) (all : List Test) → sets ends i (ends_from n all []) ≡ ends
unfolding ends_from
ends_none ends i n all = refl

-- the tests of one node more, and all of them
listed_more : (l : Listed) (all : List Test) (k : ℕ) (o : List ℕ) → add_all l (listed_by all (k ∷ o)) ≡ add_all (add_all l (rows_for all k)) (listed_by all o)
unfolding listed_by joined
listed_more l all k o = add_append l (rows_for all k) (joined (rows_for all) o)

rows_done : (all : List Test) (o : List ℕ) (l : Listed) → add_all none_listed (listed_by all o) ≡ add_all l (listed_by all [])
    → take test_room (listed_by all o ++ replicate test_room no_test) ≡ l.rows
unfolding listed_by joined add_all padded
rows_done all o l e =
    let ts = listed_by all o in
    laid_over no_test ts test_room test_room (omega arith)
    ∙ ap (λ r. take test_room ts ++ r) (drop_replicate no_test (length (take test_room ts)) test_room)
    ∙ sym (laid test_room no_test (take test_room ts) (rw length-take (omega arith)))
    ∙ sym (add_rows none_listed ts (omega arith))
    ∙ ap (λ l. l.rows) e

-- what holds at every turn: of the order so many nodes are asked for
pub record Sized (order : List ℕ) (nodes top : ℕ) : Type 0 where
  pub few : top ≡ min nodes node_room
  pub full : length order ≡ node_room

-- the loop over the nodes: what is still to come
pub record Planning (all : List Test) (o : List ℕ) (listed : Listed) (ends : List ℕ) (i : ℕ) : Type 0 where
  pub within : i ≤ length o
  pub counted : listed.count ≤ test_room
  pub same : add_all none_listed (listed_by all o) ≡ add_all listed (listed_by all (drop i o))
  pub marked : padded node_room 0 (ends_from 0 all o) ≡ sets ends i (ends_from listed.count all (drop i o))

-- what is listed behind the tests of a node that are left from place j on
abbrev pub then : List Test → List Test → ℕ → ℕ → ℕ → Listed
then all rows count k j = add_all (record { rows = rows; count = count }) (rows_for (drop j all) k)

-- a node's tests put down
node_done : (all : List Test) (o : List ℕ) (listed : Listed) (ends : List ℕ) (i k : ℕ) → Planning all o listed ends i → i < length o
    → drop i o ≡ k ∷ drop (suc i) o
    → Planning all o (add_all listed (rows_for all k)) (set ends i (add_all listed (rows_for all k)).count) (suc i)
node_done all o listed ends i k inv h next =
    let count = add_count listed (rows_for all k) inv.counted in
    record {
      within = h;
      counted = omega (arith, count);
      same = inv.same ∙ ap (λ o. add_all listed (listed_by all o)) next ∙ listed_more listed all k (drop (suc i) o);
      marked =
          inv.marked
          ∙ ap (λ o. sets ends i (ends_from listed.count all o)) next
          ∙ ends_more ends i listed.count all k (drop (suc i) o) (add_all listed (rows_for all k)).count (sym count);
    }

module _ (all : List Test) (order : List ℕ) (nodes top : ℕ) where
  -- the nodes that are asked for
  abbrev Nodes : List ℕ
  Nodes = take top order

  -- the loop over the nodes
  pub record AtNode (rows : List Test) (ends : List ℕ) (count i : ℕ) : Type 0 where
    pub sized : Sized order nodes top
    pub going : Planning all Nodes (record { rows = rows; count = count }) ends i

  -- the loop over the tests, at the node of place i
  pub record AtRow (rows : List Test) (ends : List ℕ) (count i j : ℕ) : Type 0 where
    pub sized : Sized order nodes top
    pub node : i < top
    pub going : Planning all Nodes (then all rows count (get_or order i 0) j) (set ends i (then all rows count (get_or order i 0) j).count) (suc i)

  pub nodes_start : length order ≡ node_room → top ≡ min nodes node_room → (t : Test) → t ≡ no_test
      → AtNode (replicate test_room t) (replicate node_room 0) 0 0
  nodes_start l g t n = rw n (record {
    sized = record { few = g; full = l };
    going = record {
      within = omega arith;
      counted = omega arith;
      same = refl;
      marked = sym (laid node_room 0 (ends_from 0 all Nodes) (omega (arith, ends_length 0 all Nodes, length-take top order)));
    };
  })

  module _ (rows : List Test) (ends : List ℕ) (count i : ℕ) (inv : AtNode rows ends count i) where
    -- the node at the place
    pub rows_start : i < top → AtRow rows ends count i 0
    rows_start h =
        let long : length Nodes ≡ top = length-take top order ∙ omega (arith, inv.sized.few, inv.sized.full) in
        record {
          sized = inv.sized;
          node = h;
          going = node_done all Nodes (record { rows = rows; count = count }) ends i (get_or order i 0) inv.going (omega arith)
              (drop-cons Nodes i 0 (omega arith) ∙ ap (λ x. x ∷ drop (suc i) Nodes) (get_or-take top order i 0 h));
        }

    pub nodes_done : top ≤ i → record { rows = rows; ends = ends; order = order; nodes = nodes } ≡ as_plan all order nodes
    unfolding as_plan
    nodes_done h =
        let none : drop i Nodes ≡ [] = drop_of_length-le Nodes {i = i} (rw length-take (omega arith)) in
        let o : Nodes ≡ take nodes order = ap (λ n. take n order) inv.sized.few ∙ take_low node_room nodes order inv.sized.full in
        ap₂ (λ (r : List Test) (e : List ℕ). record { rows = r; ends = e; order = order; nodes = nodes })
        (sym (rows_done all Nodes (record { rows = rows; count = count })
        (inv.going.same ∙ ap (λ o. add_all (record { rows = rows; count = count }) (listed_by all o)) none)))
        (sym (inv.going.marked ∙ ap (λ o. sets ends i (ends_from count all o)) none ∙ ends_none ends i count all))
        ∙ ap (λ (o : List ℕ). record {
          rows = take test_room (listed_by all o ++ replicate test_room no_test);
          ends = padded node_room 0 (ends_from 0 all o);
          order = order;
          nodes = nodes;
        }) o

  module _ (rows : List Test) (ends : List ℕ) (count i j : ℕ) (inv : AtRow rows ends count i j) where
    abbrev node : ℕ
    node = get_or order i 0

    -- what is listed then, otherwise said
    then_as : (rows' : List Test) (count' j' : ℕ) → then all rows count node j ≡ then all rows' count' node j' → AtRow rows' ends count' i j'
    then_as rows' count' j' e = record {
      sized = inv.sized;
      node = inv.node;
      going = subst (λ l. Planning all Nodes l (set ends i l.count) (suc i)) e inv.going;
    }

    module _ (d : Test) (h : j < length all) (b : Bool) (is : b ≡ (eqb (get_or all j d).node node && ltb count test_room)) where
      pub row_passed : b ≡ false → (rows' : List Test) (n : ℕ) → rows' ≡ rows → n ≡ count → AtRow rows' ends n i (j + 1)
      row_passed t rows' n e f = rw (e, f, add-one j) (then_as rows count (suc j)
          (ap (λ ts. add_all (record { rows = rows; count = count }) (rows_for ts node)) (drop-cons all j d h)
          ∙ add_passed (get_or all j d) (drop (suc j) all) node (record { rows = rows; count = count }) (sym is ∙ t)))

      pub row_room : b ≡ true → count < test_room
      row_room t = (add_put (get_or all j d) [] node (record { rows = rows; count = count }) (sym is ∙ t)).0

      pub row_put : b ≡ true → (rows' : List Test) (n : ℕ) → rows' ≡ set rows count (get_or all j d) → n ≡ count + 1 → AtRow rows' ends n i (j + 1)
      row_put t rows' n e f = rw (e, f, add-one count, add-one j) (then_as (set rows count (get_or all j d)) (suc count) (suc j)
          (ap (λ ts. add_all (record { rows = rows; count = count }) (rows_for ts node)) (drop-cons all j d h)
          ∙ (add_put (get_or all j d) (drop (suc j) all) node (record { rows = rows; count = count }) (sym is ∙ t)).1))

    -- no test left
    then_none : length all ≤ j → then all rows count node j ≡ record { rows = rows; count = count }
    unfolding add_all rows_for keep
    then_none h = ap (λ ts. add_all (record { rows = rows; count = count }) (rows_for ts node)) (drop_of_length-le all {i = j} h)

    module _ (h : length all ≤ j) where
      listed_now : Planning all Nodes (record { rows = rows; count = count }) (set ends i count) (suc i)
      listed_now = subst (λ l. Planning all Nodes l (set ends i l.count) (suc i)) (then_none h) inv.going

      pub rows_fit : Fits w8 count
      rows_fit = omega (arith, listed_now.counted)

      pub rows_place : i < node_room
      rows_place = omega (arith, inv.sized.few, inv.node)

      pub rows_next : AtNode rows (set ends i count) count (i + 1)
      rows_next = rw add-one (record { sized = inv.sized; going = listed_now })

pub ruleset planning = (nodes_start, rows_start, nodes_done, row_passed, row_room, row_put, rows_fit, rows_place, rows_next)
