-- What the functions add, in return form: the premises are what is known at a place, the conclusion is what is asked there.
use Prim.Native.Nat.{ℕ, zero, suc, ◌+◌, ◌-◌, ◌*◌, ◌/◌, ◌%◌, ◌≤◌, ◌<◌}
use mathlib.Core.Path.{◌≡◌, refl, sym, ◌∙◌, ap, ap₂, subst}
use mathlib.Core.Bool.{Bool, true, false, cond, ◌&&◌, ◌||◌, or-false, or_assoc}
use mathlib.Core.List.{List, [], ◌∷◌, ◌++◌, append-nil}
use native.Mathlib.Omega.{arith}
use native.Mathlib.Numerals.{add-one}
use native.Mathlib.Decide.{ℕ_discrete}
use lib.Dec.{eqb, ltb}
use lib.ListN.{length, get_or, take, drop, set, replicate, length-set, drop_of_length-le}
use lib.Seq.{take_all, take-suc, drop-cons, get_or-set_same, get_or-set_other}
use borrow.Author.Tests.{eq-eqb, ne_eqb, lt-ltb, le-ltb, le-leb, lt-leb}
use Rattle.std.specs.Prelude as Code
use Rattle.meaning.specs.Text.{any, is_in, keep, joined}
use Rattle.meaning.specs.Graph.{Into, edge, order_for}
use Rattle.meaning.specs.Circle.{circle_for}
use Rattle.meaning.specs.Tests.{up, down, both}
use Rattle.meaning.specs.Limits.{status_limit}
use Rattle.theory.specs.Lists.Members.{joined_both, joined_one, keep_append}
use Rattle.limits.specs.Sizes.{node_room}
use Rattle.graph_order.specs.Masks.{has, mask_into, with_bit, width}
use Rattle.graph_order.specs.Answers.{as_sorting}
use Rattle.graph_order.proofs.Callers.{has_with, edges_none, sort_same}
use Rattle.graph_circle.specs.declared.Circle.{Circle}
use Rattle.graph_circle.specs.Answers.{as_circle}
use Rattle.graph_circle.proofs.Callers.{find_same}
use Rattle.sheet_tables.specs.declared.Trigger.{Trigger}
use Rattle.sheet_tables.specs.declared.Trigger.TheVariants.{Always, Event, Rise, Fall}
use Rattle.graph_tests.specs.declared.Test.{Test}
use Rattle.graph_tests.specs.Table.{rows_for}
use Rattle.graph_edges.specs.Edges.{trigger_nodes, word_nodes, home_nodes, test_nodes, tests_into, line_from}
use Rattle.graph_edges.specs.Added.{toward, Added}

-- ADDING: nothing, and these edges and then those

pub in_either : (p : ℕ) (xs ys : List ℕ) → is_in p (xs ++ ys) ≡ is_in p xs || is_in p ys
unfolding any
in_either p [] ys = refl
in_either p (x ∷ xs) ys = ap (λ b. eqb p x || b) (in_either p xs ys) ∙ sym (or_assoc (eqb p x) (is_in p xs) (is_in p ys))

module _ (into : Into) (was : List ℕ) where
  added_none : length was ≡ node_room → ((k : ℕ) → k < node_room → into k ≡ []) → Added into was was
  unfolding any
  added_none l h = record { long = l; edges = λ p k a b. sym (ap (λ ps. has (get_or was k 0) p || is_in p ps) (h k b) ∙ or-false (has (get_or was k 0) p)) }

  added_then : (mid is : List ℕ) (a b : Into) → Added a was mid → Added b mid is → ((k : ℕ) → k < node_room → into k ≡ a k ++ b k) → Added into was is
  added_then mid is a b x y h =
      record {
        long = y.long;
        edges = λ p k c d.
            y.edges p k c d ∙ ap (λ t. t || is_in p (b k)) (x.edges p k c d) ∙ or_assoc (has (get_or was k 0) p) (is_in p (a k)) (is_in p (b k))
            ∙ ap (λ t. has (get_or was k 0) p || t) (sym (in_either p (a k) (b k)) ∙ ap (is_in p) (sym (h k d)));
      }

-- edges to one node
module _ (k : ℕ) where
  toward_here : (ps : List ℕ) → toward k ps k ≡ ps
  unfolding toward
  toward_here ps = rw (eq-eqb k k refl)

  toward_other : (ps : List ℕ) (j : ℕ) → (j ≡ k → ⊥) → toward k ps j ≡ []
  unfolding toward
  toward_other ps j ne = rw (ne_eqb k j (λ e. ne (sym e)))

  toward_none : (j : ℕ) → toward k [] j ≡ []
  unfolding toward
  toward_none j = go (eqb k j)
    where
      go : (b : Bool) → ◌≡◌ {A = List ℕ} (cond b [] []) []
      go true = refl
      go false = refl

  toward_both : (ps qs : List ℕ) (j : ℕ) → toward k (ps ++ qs) j ≡ toward k ps j ++ toward k qs j
  unfolding toward
  toward_both ps qs j = go (eqb k j)
    where
      go : (b : Bool) → cond b (ps ++ qs) [] ≡ cond b ps [] ++ cond b qs []
      go true = refl
      go false = refl

  -- no node, and the nodes of both lists
  pub none_toward : (ps was : List ℕ) → length was ≡ node_room → ps ≡ [] → Added (toward k ps) was was
  none_toward ps was l e = added_none (toward k ps) was l (λ j h. ap (λ qs. toward k qs j) e ∙ toward_none j)

  pub as_toward : (ps qs was is : List ℕ) → Added (toward k ps) was is → ps ≡ qs → Added (toward k qs) was is
  as_toward ps qs was is a e = subst (λ l. Added (toward k l) was is) e a

  pub both_toward : (ps qs was mid is : List ℕ) → Added (toward k ps) was mid → Added (toward k qs) mid is → (all : List ℕ) → all ≡ ps ++ qs
      → Added (toward k all) was is
  both_toward ps qs was mid is a b all e =
      added_then (toward k all) was mid is (toward k ps) (toward k qs) a b (λ j h. ap (λ l. toward k l j) e ∙ toward_both ps qs j)

-- ONE EDGE

module _ (masks : List ℕ) (p k : ℕ) (long : length masks ≡ node_room) where
  pub link_past : node_room ≤ k → Added (toward k (p ∷ [])) masks masks
  link_past h = added_none (toward k (p ∷ [])) masks long (λ j l. toward_other k (p ∷ []) j (λ e. omega arith))

  pub link_room : k < node_room → (m : ℕ) → m ≡ with_bit (get_or masks k 0) p → Added (toward k (p ∷ [])) masks (set masks k m)
  unfolding any
  link_room h m e = record { long = length-set masks k m ∙ long; edges = λ q j a b. at q j a (ℕ_discrete j k) }
    where
      with_room_lem : (q : ℕ) → q < node_room → Dec (q ≡ p) → eqb q p && ltb p width ≡ eqb q p || false
      with_room_lem q l (yes z) = rw (eq-eqb q p z, lt-ltb p width (omega arith))
      with_room_lem q l (no ne) = rw (ne_eqb q p ne)

      at : (q j : ℕ) → q < node_room → Dec (j ≡ k) → has (get_or (set masks k m) j 0) q ≡ has (get_or masks j 0) q || is_in q (toward k (p ∷ []) j)
      at q j l (yes z) =
          let s : get_or (set masks k m) k 0 ≡ m = get_or-set_same masks k m 0 (omega arith) in
          rw (z, s, toward_here k (p ∷ []), e, has_with (get_or masks k 0) p q) (ap (λ b. has (get_or masks k 0) q || b) (with_room_lem q l (ℕ_discrete q p)))
      at q j l (no ne) = rw (get_or-set_other masks k j m 0 ne, toward_other k (p ∷ []) j ne) (sym (or-false (has (get_or masks j 0) q)))

pub ruleset linking = (link_past, link_room)

pub both_linked : (y k p q : ℕ) (was mid is : List ℕ) → p ≡ up y → q ≡ down y → Added (toward k (p ∷ [])) was mid → Added (toward k (q ∷ [])) mid is
    → Added (toward k (both y)) was is
both_linked y k p q was mid is e g a b = both_toward k (p ∷ []) (q ∷ []) was mid is a b (both y) (sym (ap₂ (λ x z. x ∷ z ∷ []) e g))

pub ruleset coupling = (both_linked)

-- THE NODES OF A TEST'S PARTS

module _ (plus : Bool) (x : ℕ) where
  pub node_up : plus ≡ true → x * 2 ≡ cond plus (up x) (down x)
  node_up e = sym (rw e)

  pub node_down : plus ≡ false → x * 2 + 1 ≡ cond plus (up x) (down x)
  node_down e = sym (rw e)

pub ruleset naming = (node_up, node_down)

module _ (was : List ℕ) (k : ℕ) (t : Trigger) where
  pub trigger_always : length was ≡ node_room → t ≡ Always → Added (toward k (trigger_nodes t)) was was
  trigger_always l e = none_toward k (trigger_nodes t) was l (ap trigger_nodes e)

  pub trigger_event : length was ≡ node_room → (e : ℕ) → t ≡ Event e → Added (toward k (trigger_nodes t)) was was
  trigger_event l e g = none_toward k (trigger_nodes t) was l (ap trigger_nodes g)

  module _ (is : List ℕ) (y w p : ℕ) (same : w ≡ y) where
    pub trigger_rise : t ≡ Rise y → p ≡ up w → Added (toward k (p ∷ [])) was is → Added (toward k (trigger_nodes t)) was is
    trigger_rise e n a = as_toward k (p ∷ []) (trigger_nodes t) was is a (ap (λ q. q ∷ []) (n ∙ ap up same) ∙ sym (ap trigger_nodes e))

    pub trigger_fall : t ≡ Fall y → p ≡ down w → Added (toward k (p ∷ [])) was is → Added (toward k (trigger_nodes t)) was is
    trigger_fall e n a = as_toward k (p ∷ []) (trigger_nodes t) was is a (ap (λ q. q ∷ []) (n ∙ ap down same) ∙ sym (ap trigger_nodes e))

pub ruleset triggering = (trigger_always, trigger_event, trigger_rise, trigger_fall)

-- a word of kind 2 or 3 names a status
module _ (was : List ℕ) (k w : ℕ) where
  pub word_joins : length was ≡ node_room → w % 8 < 2 → Added (toward k (word_nodes w)) was was
  word_joins l h = none_toward k (word_nodes w) was l (rw (lt-leb 2 (w % 8) h))

  pub word_compares : length was ≡ node_room → 2 ≤ w % 8 → 4 ≤ w % 8 → Added (toward k (word_nodes w)) was was
  word_compares l h g = none_toward k (word_nodes w) was l (rw (le-leb 2 (w % 8) h, le-ltb (w % 8) 4 g))

  pub word_status : 2 ≤ w % 8 → w % 8 < 4 → (is : List ℕ) → Added (toward k (both (w / 8 % 32))) was is → Added (toward k (word_nodes w)) was is
  word_status h g is a = as_toward k (both (w / 8 % 32)) (word_nodes w) was is a (sym (rw (le-leb 2 (w % 8) h, lt-ltb (w % 8) 4 g)))

pub ruleset wording = (word_joins, word_compares, word_status)

-- a code of a stage that is not 0
home_suc : (c : ℕ) → (c ≡ 0 → ⊥) → home_nodes c ≡ both (c - 1)
home_suc zero ne = absurd (ne refl)
home_suc (suc p) ne = let z : p ≡ suc p - 1 = omega arith in ap both z

module _ (was : List ℕ) (k c : ℕ) where
  pub home_none : length was ≡ node_room → c ≡ 0 → Added (toward k (home_nodes c)) was was
  home_none l e = none_toward k (home_nodes c) was l (rw e)

  pub home_some : (c ≡ 0 → ⊥) → (w : ℕ) → w ≡ c → (is : List ℕ) → Added (toward k (both (w - 1))) was is → Added (toward k (home_nodes c)) was is
  home_some ne w e is a = as_toward k (both (w - 1)) (home_nodes c) was is a (ap (λ v. both (v - 1)) e ∙ sym (home_suc c ne))

pub ruleset covering = (home_none, home_some)

-- THE WORDS OF A CONDITION

-- the edges of the first i words stand in the masks
pub record Reading (words : List ℕ) (k : ℕ) (was is : List ℕ) (i : ℕ) : Type 0 where
  pub added : Added (toward k (joined word_nodes (take i words))) was is

module _ (words : List ℕ) (k : ℕ) (was : List ℕ) where
  pub reading_start : length was ≡ node_room → Reading words k was was 0
  unfolding joined
  reading_start l = record { added = none_toward k [] was l refl }

  module _ (is : List ℕ) (i : ℕ) (s : Reading words k was is i) where
    pub reading_long : length is ≡ node_room
    reading_long = s.added.long

    pub reading_end : length words ≤ i → Added (toward k (joined word_nodes words)) was is
    reading_end h = as_toward k (joined word_nodes (take i words)) (joined word_nodes words) was is s.added (ap (joined word_nodes) (take_all i words h))

    pub reading_next : (w : ℕ) → w ≡ get_or words i 0 → (after : List ℕ) → i < length words → Added (toward k (word_nodes w)) is after
        → Reading words k was after (i + 1)
    reading_next w e after h a = record {
      added =
          both_toward k (joined word_nodes (take i words)) (word_nodes w) was is after s.added a (joined word_nodes (take (i + 1) words))
          (ap (joined word_nodes) (ap (λ m. take m words) (add-one i) ∙ take-suc words i 0 h)
          ∙ joined_both word_nodes (take i words) (get_or words i 0 ∷ [])
          ∙ ap (λ l. joined word_nodes (take i words) ++ l) (joined_one word_nodes (get_or words i 0) ∙ ap word_nodes (sym e)));
    }

pub ruleset reading = (reading_start, reading_long, reading_end, reading_next)

-- A TEST

pub test_added : (words : List ℕ) (t : Test) (was : List ℕ) (k : ℕ) → k ≡ t.node → (one two is : List ℕ) → Added (toward k (trigger_nodes t.trigger)) was one
    → (a b : ℕ) → a ≡ t.from → b ≡ t.to → (ws : List ℕ) → ws ≡ take (b - a) (drop a words) → Added (toward k (joined word_nodes ws)) one two
    → Added (toward k (home_nodes t.home)) two is → Added (toward t.node (test_nodes words t)) was is
unfolding test_nodes
test_added words t was k e one two is g a b f h ws part w o =
    subst (λ n. Added (toward n (test_nodes words t)) was is) e
    (both_toward k (trigger_nodes t.trigger ++ joined word_nodes ws) (home_nodes t.home) was two is
    (both_toward k (trigger_nodes t.trigger) (joined word_nodes ws) was one two g w (trigger_nodes t.trigger ++ joined word_nodes ws) refl) o
    (test_nodes words t)
    (sym (ap (λ l. trigger_nodes t.trigger ++ joined word_nodes l ++ home_nodes t.home) (part ∙ ap₂ (λ m n. take (n - m) (drop m words)) f h))))

-- ALL TESTS

-- those kept of two lists, and one row more
module _ {A B : Type 0} (f : A → List B) (q : A → Bool) where
  pub keep_both : (xs ys : List A) → joined f (keep q (xs ++ ys)) ≡ joined f (keep q xs) ++ joined f (keep q ys)
  keep_both xs ys = ap (joined f) (keep_append q xs ys) ∙ joined_both f (keep q xs) (keep q ys)

  pub keep_one : (x : A) → joined f (keep q (x ∷ [])) ≡ cond (q x) (f x) []
  unfolding joined keep
  keep_one x = go (q x)
    where
      go : (b : Bool) → joined f (elim b [ true ↦ x ∷ [] | false ↦ [] ]) ≡ cond b (f x) []
      go true = append-nil (f x)
      go false = refl

-- the edges of the first i tests stand in the masks
pub record Adding (words : List ℕ) (rows : List Test) (is : List ℕ) (i : ℕ) : Type 0 where
  pub added : Added (tests_into words (take i rows)) (replicate node_room 0) is

module _ (words : List ℕ) (rows : List Test) where
  pub adding_start : Adding words rows (replicate node_room 0) 0
  unfolding tests_into rows_for joined keep
  adding_start = record { added = added_none (tests_into words []) (replicate node_room 0) refl (λ k g. refl) }

  module _ (is : List ℕ) (i : ℕ) (s : Adding words rows is i) where
    pub adding_long : length is ≡ node_room
    adding_long = s.added.long

    pub adding_end : length rows ≤ i → Added (tests_into words rows) (replicate node_room 0) is
    adding_end h = subst (λ ts. Added (tests_into words ts) (replicate node_room 0) is) (take_all i rows h) s.added

    pub adding_next : (d : Test) (after : List ℕ) → i < length rows
        → Added (toward (get_or rows i d).node (test_nodes words (get_or rows i d))) is after → Adding words rows after (i + 1)
    unfolding tests_into rows_for toward
    adding_next d after h a =
        let more : take (i + 1) rows ≡ take i rows ++ (get_or rows i d ∷ []) = ap (λ m. take m rows) (add-one i) ∙ take-suc rows i d h in
        record {
          added = added_then (tests_into words (take (i + 1) rows)) (replicate node_room 0) is after (tests_into words (take i rows))
              (toward (get_or rows i d).node (test_nodes words (get_or rows i d))) s.added a
              (λ k g. ap (λ ts. tests_into words ts k) more
              ∙ keep_both (test_nodes words) (λ t. eqb t.node k) (take i rows) (get_or rows i d ∷ [])
              ∙ ap (λ l. tests_into words (take i rows) k ++ l) (keep_one (test_nodes words) (λ t. eqb t.node k) (get_or rows i d)));
        }

pub ruleset adding = (adding_start, adding_long, adding_end, adding_next)

-- THE ORDER, AND THE CIRCLE: the masks have the graph's edges, and only these decide

module _ (words : List ℕ) (rows : List Test) (statuses : ℕ) (is : List ℕ) (few : statuses ≤ status_limit)
    (a : Added (tests_into words rows) (replicate node_room 0) is) where
  alike : (p k : ℕ) → p < statuses * 2 → k < statuses * 2 → has (get_or is k 0) p ≡ edge (tests_into words rows) p k
  unfolding edge
  alike p k c d = a.edges p k (omega arith) (omega arith) ∙ ap (λ t. t || is_in p (tests_into words rows k)) (edges_none node_room p k)

  pub order_of_lem : (r : Code.Option (List ℕ)) → r ≡ as_sorting (order_for (statuses * 2) (mask_into is))
      → r ≡ as_sorting (order_for (statuses * 2) (tests_into words rows))
  order_of_lem r = sort_same is (statuses * 2) (tests_into words rows) r (omega arith) alike

  pub circle_of : (r : Circle) → r ≡ as_circle (circle_for (statuses * 2) (mask_into is)) → r ≡ as_circle (circle_for (statuses * 2) (tests_into words rows))
  circle_of r = find_same is (statuses * 2) (tests_into words rows) r (omega arith) alike

-- THE LINE OF AN EDGE

-- a test alone in a graph
pub gives_is : (words : List ℕ) (t : Test) (p k : ℕ) (is : List ℕ) → p < node_room → k < node_room
    → Added (toward t.node (test_nodes words t)) (replicate node_room 0) is → has (get_or is k 0) p ≡ eqb t.node k && is_in p (test_nodes words t)
unfolding toward any
gives_is words t p k is g h a =
    a.edges p k g h ∙ ap (λ b. b || is_in p (toward t.node (test_nodes words t) k)) (edges_none node_room p k) ∙ go (eqb t.node k)
  where
    go : (b : Bool) → is_in p (cond b (test_nodes words t) []) ≡ b && is_in p (test_nodes words t)
    go true = refl
    go false = refl

-- the rows from the cursor on decide
abbrev pub Lining : List ℕ → List Test → ℕ → ℕ → ℕ → Type 0
Lining words rows p k i = line_from words rows p k ≡ line_from words (drop i rows) p k

module _ (words : List ℕ) (rows : List Test) (p k i : ℕ) (s : Lining words rows p k i) where
  pub lining_end : length rows ≤ i → 0 ≡ line_from words rows p k
  unfolding line_from
  lining_end h = sym (s ∙ ap (λ ts. line_from words ts p k) (drop_of_length-le rows h))

  module _ (d : Test) (h : i < length rows) where
    -- whether the row at the cursor gives the edge, and its line or what those behind it give
    abbrev gives : Bool
    gives = eqb (get_or rows i d).node k && is_in p (test_nodes words (get_or rows i d))

    abbrev line_by : Bool → ℕ
    line_by b = cond b (get_or rows i d).line (line_from words (drop (i + 1) rows) p k)

    one_more : line_from words rows p k ≡ line_by gives
    unfolding line_from
    one_more = s ∙ ap (λ ts. line_from words ts p k) (drop-cons rows i d h ∙ ap (λ m. get_or rows i d ∷ drop m rows) (sym (add-one i)))

    pub lining_found : (b : Bool) → b ≡ gives → b ≡ true → (get_or rows i d).line ≡ line_from words rows p k
    lining_found b e t = sym (one_more ∙ ap line_by (sym e ∙ t))

    pub lining_next : (b : Bool) → b ≡ gives → b ≡ false → Lining words rows p k (i + 1)
    lining_next b e t = one_more ∙ ap line_by (sym e ∙ t)

pub ruleset lining = (lining_end, lining_found, lining_next)
