-- Items at the returns of their reader, and the whole condition.
use Prim.Native.Nat.{ℕ, zero, suc, ◌+◌, ◌-◌, ◌≤◌}
use mathlib.Core.Path.{◌≡◌, refl, sym, ◌∙◌, ap}
use mathlib.Core.Bool.{Bool, true, false, not}
use mathlib.Core.List.{List}
use lib.Dec.{eqb}
use native.Mathlib.Omega.{arith}
use borrow.Author.Tests.{not-true, not-false}
use lib.ListN.{length, take, drop, length-drop}
use lib.Seq.{drop-drop}
use Rattle.std.specs.Prelude.{Result, Ok, Err}
use Rattle.std.specs.Result.{is_err}
use Rattle.std.proofs.lemmas.Bool.{false≢true, eqb-true}
use Rattle.meaning.specs.Refusal.{COND}
use Rattle.meaning.specs.Limits.{leaf_limit, nest_limit}
use Rattle.meaning.specs.Text.{text, begins}
use Rattle.meaning.specs.Reading.{Got, got, wrong, after, give, due}
use Rattle.meaning.specs.Name.{Name}
use Rattle.meaning.specs.Condition.{Leaf, Item, leaves_c, leaves_i}
use Rattle.meaning.specs.ReadCondition.{read_leaf, read_cond, item_with, read_item, condition}
use Rattle.theory.specs.Lists.Members.{take_sets}
use Rattle.theory.specs.Reading.Built.{due_built, cond_fault}
use Rattle.theory.specs.Reading.Spelling.{due_spells}
use Rattle.theory.specs.Reading.Answered.{told_ends}
use Rattle.theory.specs.Reading.Told.{Told, Any, inline_told, spelled_took, not_ended_none, not_ended_some}
use Rattle.text.proofs.Callers.{begins_fits, stands_here, stands_not}
use Rattle.reply.specs.declared.Fault.{Fault}
use Rattle.reply.specs.declared.Fault.TheVariants as F
use Rattle.reply.specs.Faults.{fault_of}
use Rattle.cond_value.specs.Flat.{words_c, words_i, words}
use Rattle.cond_read.specs.Answers.{as_condition, stored}
use Rattle.cond_read.specs.Parts.{items, conditions, Gives}
use Rattle.cond_item.specs.declared.Place.{Place}
use Rattle.cond_item.specs.Answers.{place_at, as_place, as_item, item_space, cleared, Stored, Within, further, closing, closed_by}
use Rattle.cond_item.proofs.Callers.{place_within, place_further, stored_read, stored_cleared}
use Rattle.cond_read.proofs.Kept.{items_tell, conditions_tell, Found, given_found, given_refused, gives_found, gives_refused}

-- by the test whether a text ended
pub no_more : (s : List ℕ) (b : Bool) → b ≡ eqb (length s) 0 → b ≡ true → length s ≡ 0
no_more s b e h = eqb-true (length s) 0 (sym e ∙ h)

pub some_more : (s : List ℕ) (b : Bool) → b ≡ eqb (length s) 0 → b ≡ false → length s ≡ 0 → ⊥
some_more s b e h z = false≢true (sym h ∙ e ∙ rw z refl)

-- the cases of an item's reader
module _ (st fd : List Name) (l k : ℕ) (s : List ℕ) where
  case_ended : (d : ℕ) → length s ≡ 0 → read_item st fd d l k s ≡ wrong 2 k
  unfolding read_item item_with
  case_ended zero h = rw (not_ended_none k s h)
  case_ended (suc d) h = rw (not_ended_none k s h)

  module _ (h : length s ≡ 0 → ⊥) where
    case_not_deep : begins (text "not ") s ≡ true → read_item st fd 0 l k s ≡ wrong 5 k
    unfolding read_item item_with
    case_not_deep b = rw (not_ended_some k s h, stands_here (text "not ") k s true (sym b) refl)

    case_not : (d : ℕ) → begins (text "not ") s ≡ true → read_item st fd (suc d) l k s ≡ after (read_item st fd d l k (drop 4 s)) (λ i. give (Item.neg i))
    unfolding read_item item_with
    case_not d b = rw (not_ended_some k s h, stands_here (text "not ") k s true (sym b) refl)

    module _ (b : begins (text "not ") s ≡ false) where
      case_leaf : (d : ℕ) → begins (text "(") s ≡ false → read_item st fd d l k s ≡ after (read_leaf st fd l k s) (λ x. give (Item.leaf x))
      unfolding read_item item_with
      case_leaf zero c = rw (not_ended_some k s h, stands_not (text "not ") k s false (sym b) refl, stands_not (text "(") k s false (sym c) refl)
      case_leaf (suc d) c = rw (not_ended_some k s h, stands_not (text "not ") k s false (sym b) refl, stands_not (text "(") k s false (sym c) refl)

      case_group_deep : begins (text "(") s ≡ true → read_item st fd 0 l k s ≡ wrong 5 k
      unfolding read_item item_with
      case_group_deep c = rw (not_ended_some k s h, stands_not (text "not ") k s false (sym b) refl, stands_here (text "(") k s true (sym c) refl)

      case_group : (d : ℕ) → begins (text "(") s ≡ true
          → read_item st fd (suc d) l k s ≡ after (read_cond (read_item st fd d) (suc leaf_limit) l k (drop 1 s)) (λ c m u. after (due COND (text ")") m u)
          (λ _. give (Item.group c)))
      unfolding read_item item_with
      case_group d c = rw (not_ended_some k s h, stands_not (text "not ") k s false (sym b) refl, stands_here (text "(") k s true (sym c) refl)

-- a group's condition lies behind its parenthesis
pub item_group_within : (st fd : List Name) (d : ℕ) (neg : Bool) (s v : List ℕ) (top leaves : ℕ) (was is : List ℕ) (r : Result Place Fault)
    → Gives (conditions st fd neg d) v top leaves r was is → v ≡ drop 1 s → (length s ≡ 0 → ⊥) → Within s 1 r
unfolding conditions
item_group_within st fd d neg s v top leaves was is r g ev h =
    place_within (words_c neg false) leaves_c 1 s v ev (omega arith) (told_ends (conditions_tell st fd neg d leaves v)) top leaves r g.answer

-- what an item gives
module _ (st fd : List Name) (d : ℕ) (neg : Bool) (s : List ℕ) (top leaves : ℕ) (was : List ℕ) where
  refuses : (c : ℕ) → read_item st fd d leaves 0 s ≡ wrong c 0 → Gives (items st fd neg d) s top leaves (Err (fault_of c)) was was
  unfolding items
  refuses c e = gives_refused (items st fd neg d) s top leaves was was c (fault_of c) refl e refl

  pub item_ended : length s ≡ 0 → Gives (items st fd neg d) s top leaves (Err F.Line) was was
  item_ended h = refuses 2 (case_ended st fd leaves 0 s d h)

  module _ (h : length s ≡ 0 → ⊥) (b : Bool) (eb : b ≡ begins (text "not ") s) where
    pub item_not_deep : b ≡ true → d ≡ 0 → Gives (items st fd neg d) s top leaves (Err F.Cond) was was
    item_not_deep tb z = refuses 5 (rw z (case_not_deep st fd leaves 0 s h (sym eb ∙ tb)))

    -- `not ` and an item
    module _ (tb : b ≡ true) (z : d ≡ 0 → ⊥) (v : List ℕ) (ev : v ≡ drop 4 s) (r : Result Place Fault) (is : List ℕ)
        (g : Gives (items st fd (not neg) (d - 1)) v top leaves r was is) where
      pub item_not_within : Within s 4 r
      unfolding items
      item_not_within = place_within (words_i (not neg)) leaves_i 4 s v ev (begins_fits (text "not ") s (sym eb ∙ tb))
          (told_ends (items_tell st fd (not neg) (d - 1) leaves v)) top leaves r g.answer

      pub item_not : (u : Result Place Fault) → u ≡ further 4 r → Gives (items st fd neg d) s top leaves u was is
      unfolding items words_i leaves_i
      item_not u eu = go (read_item st fd (d - 1) leaves 0 v)
          (eu ∙ place_further (words_i (not neg)) leaves_i 4 s v ev (begins_fits (text "not ") s (sym eb ∙ tb))
          (told_ends (items_tell st fd (not neg) (d - 1) leaves v)) top leaves r g.answer) g.space reads
        where
          reads : read_item st fd d leaves 0 s ≡ after (read_item st fd (d - 1) leaves 0 v) (λ i. give (Item.neg i))
          reads = let k : d ≡ suc (d - 1) = omega arith in ap (λ (j : ℕ). read_item st fd j leaves 0 s) k ∙ case_not st fd leaves 0 s h (d - 1) (sym eb ∙ tb)
              ∙ rw ev

          go : (x : Got Item) → u ≡ as_place (words_i (not neg)) leaves_i s top leaves x → Stored (words_i (not neg)) was is top x
              → read_item st fd d leaves 0 s ≡ after x (λ i. give (Item.neg i)) → Gives (items st fd neg d) s top leaves u was is
          go (got i l t) a p e = record { answer = a ∙ rw e; space = rw e p }
          go (wrong n l) a p e = record { answer = a ∙ rw e; space = rw e p }

    module _ (tb : b ≡ false) (c : Bool) (ec : c ≡ begins (text "(") s) where
      pub item_leaf : not c ≡ true → (r : Result Place Fault) (is : List ℕ) → r ≡ as_item neg s top leaves (read_leaf st fd leaves 0 s)
          → is ≡ item_space neg was top (read_leaf st fd leaves 0 s)
          → Gives (items st fd neg d) s top leaves r was is
      unfolding items words_i leaves_i
      item_leaf tc r is a p = go (read_leaf st fd leaves 0 s) a p (case_leaf st fd leaves 0 s h (sym eb ∙ tb) d (sym ec ∙ not-true c tc))
        where
          go : (g : Got Leaf) → r ≡ as_item neg s top leaves g → is ≡ item_space neg was top g
              → read_item st fd d leaves 0 s ≡ after g (λ x. give (Item.leaf x))
              → Gives (items st fd neg d) s top leaves r was is
          go (got x l t) a p e = record { answer = a ∙ rw e; space = rw e p }
          go (wrong n l) a p e = record { answer = a ∙ rw e; space = rw e (ap (take top) p) }

      module _ (tc : not c ≡ false) where
        pub item_group_deep : d ≡ 0 → Gives (items st fd neg d) s top leaves (Err F.Cond) was was
        item_group_deep z = refuses 5 (rw z (case_group_deep st fd leaves 0 s h (sym eb ∙ tb) (sym ec ∙ not-false c tc)))

        -- a group
        pub item_group : (d ≡ 0 → ⊥) → (v : List ℕ) → v ≡ drop 1 s → (r : Result Place Fault) (is : List ℕ)
            → Gives (conditions st fd neg (d - 1)) v top leaves r was is → (u : Result Place Fault) → u ≡ closed_by fault_of s r
            → Gives (items st fd neg d) s top leaves u was is
        unfolding items conditions words_i leaves_i
        item_group z v ev r is g u eu = rw eu (go r refl)
          where
            reads : read_item st fd d leaves 0 s ≡ after (read_cond (read_item st fd (d - 1)) (suc leaf_limit) leaves 0 v)
                (λ c m u. after (due COND (text ")") m u)
                (λ _. give (Item.group c)))
            reads = let k : d ≡ suc (d - 1) = omega arith in ap (λ (j : ℕ). read_item st fd j leaves 0 s) k
                ∙ case_group st fd leaves 0 s h (sym eb ∙ tb) (d - 1) (sym ec ∙ not-false c tc) ∙ rw ev

            shut : (q : Place) → Found (conditions st fd neg (d - 1)) v top leaves q was is → Told Any (due COND (text ")")) (drop (1 + q.bytes) s)
                → Gives (items st fd neg d) s top leaves (closing q (due COND (text ")") 0 (drop (1 + q.bytes) s))) was is
            shut q f (Told.faulty c e) =
                let x : drop q.bytes v ≡ drop (1 + q.bytes) s = rw (ev, drop-drop q.bytes 1 s) in
                rw (e 0) (gives_refused (items st fd neg d) s top leaves was is c (fault_of c) refl (reads ∙ rw (f.reads 0, x, e 0))
                (rw f.space (take_sets top (words_c neg false f.value) was top (omega arith))))
            shut q f (Told.found a n i w e) =
                let x : drop q.bytes v ≡ drop (1 + q.bytes) s = rw (ev, drop-drop q.bytes 1 s) in
                let o : n ≡ 1 = spelled_took (due_spells 5 (text ")")) 0 (drop (1 + q.bytes) s) a 0 n w (e 0) in
                let y : n ≤ length s - (1 + q.bytes) = rw (← length-drop (1 + q.bytes) s) w in
                rw (e 0) (gives_found (items st fd neg d) s top leaves was is (Item.group f.value) (1 + q.bytes + 1) (omega arith)
                (reads ∙ rw (f.reads 0, x, e 0, o, drop-drop 1 (1 + q.bytes) s)) (record { bytes = 1 + q.bytes + 1; top = q.top; leaves = q.leaves }) refl
                f.words f.counts f.space)

            go : (x : Result Place Fault) → r ≡ x → Gives (items st fd neg d) s top leaves (closed_by fault_of s x) was is
            go (Err c) e =
                let f = given_refused (conditions st fd neg (d - 1)) v top leaves was is (conditions_tell st fd neg (d - 1)) r g c e in
                gives_refused (items st fd neg d) s top leaves was is f.0.number c f.0.is (reads ∙ rw (f.0.reads 0)) f.1
            go (Ok q) e = shut q (given_found (conditions st fd neg (d - 1)) v top leaves was is (conditions_tell st fd neg (d - 1)) r g q e)
                (inline_told (due_built (text ")") cond_fault) (drop (1 + q.bytes) s))

-- the whole condition: what is answered, and the lent words
module _ (st fd : List Name) (s : List ℕ) (top leaves : ℕ) (was is : List ℕ) (r : Result Place Fault)
    (g : Gives (conditions st fd false nest_limit) s top leaves r was is) where
  pub whole_answer : r ≡ as_condition s top leaves (condition st fd leaves 0 s)
  unfolding conditions condition words
  whole_answer = g.answer

  module _ (b : Bool) (eb : b ≡ is_err r) where
    pub whole_stored : b ≡ false → is ≡ stored was top (condition st fd leaves 0 s)
    unfolding conditions condition words
    whole_stored h = go r refl (sym eb ∙ h)
      where
        go : (x : Result Place Fault) → r ≡ x → is_err x ≡ false → is ≡ stored was top (condition st fd leaves 0 s)
        go (Ok q) e h = stored_read (place_at words leaves_c top leaves) fault_of words s was is top (condition st fd leaves 0 s) r g.answer g.space q e
        go (Err c) e h = absurd (false≢true (sym h))

    pub whole_cleared : b ≡ true → length is ≡ length was → (end : List ℕ) → end ≡ cleared is top → end ≡ stored was top (condition st fd leaves 0 s)
    unfolding conditions condition words
    whole_cleared h long end z = go r refl (sym eb ∙ h)
      where
        go : (x : Result Place Fault) → r ≡ x → is_err x ≡ true → end ≡ stored was top (condition st fd leaves 0 s)
        go (Ok q) e h = absurd (false≢true h)
        go (Err c) e h =
            stored_cleared (place_at words leaves_c top leaves) fault_of words s was is top (condition st fd leaves 0 s) r g.answer g.space c e long end z

pub ruleset wholes = (whole_answer, whole_stored, whole_cleared)
