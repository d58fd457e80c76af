-- The small steps of the readers: joining words, bytes told from further back, a group's end, a leaf's word, cleared words.
use Prim.Native.Nat.{ℕ, ◌+◌, ◌-◌, ◌^◌, ◌≤◌, ◌<◌}
use mathlib.Core.Path.{◌≡◌, sym, ◌∙◌, ap}
use mathlib.Core.Bool.{Bool, true, false}
use mathlib.Core.List.{List, [], append-nil}
use native.Mathlib.Omega.{arith}
use native.Mathlib.Nat.{add-zero}
use borrow.Rule.Slice.PartMut.{put_mid}
use lib.ListN.{length, drop, set, replicate, length-drop, drop_of_length-le}
use lib.Seq.{sets}
use mir.Syntax.{w64}
use mir.Val.{Fits}
use Rattle.std.specs.Prelude.{Result, Ok, Err}
use Rattle.meaning.specs.Text.{text}
use Rattle.meaning.specs.Refusal.{LINE, COND}
use Rattle.meaning.specs.Reading.{Got, got, wrong, due}
use Rattle.meaning.specs.Condition.{Leaf}
use Rattle.meaning.specs.ReadCondition.{read_leaf}
use Rattle.meaning.specs.Name.{Name}
use Rattle.theory.specs.Reading.Fixed.{due_ends}
use Rattle.theory.specs.Reading.Spelling.{due_spells}
use Rattle.theory.specs.Reading.Told.{Any, spelled_took}
use Rattle.theory.specs.Reading.Answered.{here}
use Rattle.theory.specs.Reading.Piece.{Took, piece_took, piece_refuses}
use Rattle.reply.specs.declared.Fault.{Fault}
use Rattle.text.specs.declared.Taken.{Taken}
use Rattle.text.specs.Pieces.{as_due, as_length_by}
use Rattle.text.proofs.Laws.{due_numbered}
use Rattle.cond_value.specs.Flat.{bit, join}
use Rattle.cond_leaf.specs.Answers.{as_leaf}
use Rattle.cond_leaf.proofs.Callers.{leaf_got}
use Rattle.cond_item.specs.declared.Place.{Place}
use Rattle.cond_item.specs.Answers.{as_item, item_space, cleared, Ready, Within, further, closed_by}

-- the joining word
module _ (was : List ℕ) (top : ℕ) (j o : Bool) where
  pub join_stored : j ≡ true → (b : ℕ) → b ≡ bit o → set was top b ≡ sets was top (join j (bit o))
  join_stored e b q = rw (e, q)

  pub join_next : j ≡ true → (r : ℕ) → r ≡ top + 1 → r ≡ top + length (join j (bit o))
  join_next e r z = rw e z

  pub join_none : j ≡ false → was ≡ sets was top (join j (bit o))
  join_none e = rw e

  pub join_same : j ≡ false → top ≡ top + length (join j (bit o))
  join_same e = rw e (sym (add-zero top))

pub ruleset joining = (join_stored, join_next, join_none, join_same)

-- so many bytes further back
module _ {E : Type 0} (s : List ℕ) (n : ℕ) (r : Result Place E) where
  pub behind_refused : (e : E) → r ≡ Err e → Err e ≡ further n r
  behind_refused e z = rw z

  pub behind_read : (q : Place) → r ≡ Ok q → (b : ℕ) → b ≡ n + q.bytes → Ok (record { bytes = b; top = q.top; leaves = q.leaves }) ≡ further n r
  behind_read q e b z = rw (e, z)

  pub behind_fits : Within s n r → (q : Place) → r ≡ Ok q → length s < 2 ^ 64 → (b : ℕ) → b ≡ n + q.bytes → Fits w64 b
  behind_fits w q e l b z = let h : n + q.bytes ≤ length s = rw e at w in record { fits = omega arith }

pub ruleset shifting = (behind_refused, behind_read, behind_fits)

-- the end of a group, whatever a refusal is told by
module _ {E : Type 0} (of : ℕ → E) (s : List ℕ) (r : Result Place E) where
  pub group_refused : (e : E) → r ≡ Err e → Err e ≡ closed_by of s r
  group_refused e z = rw z

  module _ (q : Place) (e : r ≡ Ok q) where
    pub group_fits : Within s 1 r → length s < 2 ^ 64 → (b : ℕ) → b ≡ 1 + q.bytes → Fits w64 b
    group_fits w l b z = let h : 1 + q.bytes ≤ length s = rw e at w in record { fits = omega arith }

    module _ (end : ℕ) (ee : end ≡ 1 + q.bytes) (v : List ℕ) (ev : v ≡ drop end s) (ended other : E) (line : ended ≡ of LINE) (cond : other ≡ of COND)
        (d : Result ℕ E) (is : d ≡ as_due ended other v (due 0 (text ")") 0 v)) where
      told_by : d ≡ as_length_by of v (due COND (text ")") 0 v)
      told_by = rw (line, cond) at is ∙ due_numbered of COND v (text ")")

      pub group_open : (f : E) → d ≡ Err f → Err f ≡ closed_by of s r
      group_open f told =
          let h = piece_refuses (λ u n. n) of (due_ends COND (text ")") v) d told_by f told in
          rw (e, ← ee, ← ev, h.reads 0) (ap (λ (x : E). Err x) h.is)

      module _ (m : ℕ) (told : d ≡ Ok m) where
        close : Took (λ u n. n) here (λ u n. Any u) (due COND (text ")")) v m
        close = piece_took (λ u n. n) of (due_ends COND (text ")") v) d told_by m told

        one : m ≡ 1
        one = close.same ∙ spelled_took (due_spells COND (text ")")) 0 v tt 0 close.bytes close.within (close.reads 0)

        pub group_good : (b : ℕ) → b ≡ end + m → Ok (record { bytes = b; top = q.top; leaves = q.leaves }) ≡ closed_by of s r
        group_good b z =
            let g : due COND (text ")") 0 (drop (1 + q.bytes) s) ≡ got tt 0 (drop close.bytes v) = rw (← ee, ← ev) (close.reads 0) in
            sym (rw (e, g, z, ee, one))

        pub group_last : length s < 2 ^ 64 → (b : ℕ) → b ≡ end + m → Fits w64 b
        group_last l b z =
            let h : close.bytes ≤ length s - end = rw (← length-drop end s, ← ev) close.within in
            record { fits = omega (arith, close.same, one) }

pub ruleset closes = (group_refused, group_fits, group_open, group_good, group_last)

-- what the answer on a leaf becomes, and what is stored
module _ (neg : Bool) (s : List ℕ) (top leaves : ℕ) (was : List ℕ) where
  abbrev becomes : Result (Taken ℕ) Fault → Result Place Fault
  becomes (Ok v) = Ok (record { bytes = v.bytes; top = top + 1; leaves = leaves + 1 })
  becomes (Err e) = Err e

  abbrev stores : Result (Taken ℕ) Fault → List ℕ
  stores (Ok v) = set was top v.value
  stores (Err e) = was

  item_answer : (g : Got Leaf) (r : Result (Taken ℕ) Fault) → r ≡ as_leaf neg s g → becomes r ≡ as_item neg s top leaves g
  item_answer (got x l t) r e = rw e
  item_answer (wrong n l) r e = rw e

  item_words : (g : Got Leaf) (r : Result (Taken ℕ) Fault) → r ≡ as_leaf neg s g → stores r ≡ item_space neg was top g
  item_words (got x l t) r e = rw e
  item_words (wrong n l) r e = rw e

module _ (neg : Bool) (st fd : List Name) (leaves top : ℕ) (s was : List ℕ) (r : Result (Taken ℕ) Fault)
    (is : r ≡ as_leaf neg s (read_leaf st fd leaves 0 s)) where
  abbrev leaf : Got Leaf
  leaf = read_leaf st fd leaves 0 s

  pub leaf_refused : (e : Fault) → r ≡ Err e → Err e ≡ as_item neg s top leaves leaf
  leaf_refused e z = rw z at (item_answer neg s top leaves was leaf r is)

  pub leaf_untouched : (e : Fault) → r ≡ Err e → was ≡ item_space neg was top leaf
  leaf_untouched e z = rw z at (item_words neg s top leaves was leaf r is)

  module _ (v : Taken ℕ) (e : r ≡ Ok v) where
    pub leaf_place : Ready st fd was top leaves → top < length was
    leaf_place p = omega (arith, (leaf_got neg st fd leaves s r is v e).holds.0, p.few_words, p.room)

    pub leaf_read : (t l : ℕ) → t ≡ top + 1 → l ≡ leaves + 1 → Ok (record { bytes = v.bytes; top = t; leaves = l }) ≡ as_item neg s top leaves leaf
    leaf_read t l y z = rw (y, z) (rw e at (item_answer neg s top leaves was leaf r is))

    pub leaf_stored : set was top v.value ≡ item_space neg was top leaf
    leaf_stored = rw e at (item_words neg s top leaves was leaf r is)

pub ruleset storing = (leaf_refused, leaf_untouched, leaf_place, leaf_read, leaf_stored)

-- words cleared all at once
pub cleared_all : (was : List ℕ) (top : ℕ) → top ≤ length was → (k : ℕ) → k ≡ length was - top → (ys : List ℕ) → ys ≡ replicate k 0
    → put_mid top k was ys ≡ cleared was top
cleared_all was top h k ek ys e =
    let none : drop k (drop top was) ≡ [] = drop_of_length-le (drop top was) (omega (arith, length-drop top was)) in
    rw (e, none, append-nil, ek)
